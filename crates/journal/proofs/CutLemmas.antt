-- Bytes are cut at their first newline, and read entry by entry.
use Rattle.std.proofs.Common.{◌≡◌, ◌≢◌, ◌+◌, ◌-◌, ◌<◌, ◌∙◌, ◌∷◌, ◌++◌, [], Bor, List, None, Option, Some, ap, append_assoc, arith, drop, eq-eqb, eqb-true, get_or-take, length, length-append, length-take-le, refl, sym, take, take-append-drop, ℕ}
use Rattle.std.proofs.lemmas.List.{append-nil, drop_at, drop_more, take_rest}
use Rattle.std.proofs.lemmas.List.Elements.{All-from_get_or, recursion_from_All}
use Rattle.memchr.specs.Find.{NoneBefore, Nowhere, Passes, is_byte}
use Rattle.journal.specs.Lines.{CutsEntry, CutsLine, IsCut, IsEntry, IsLine, ended_lines, entries, marked_lines, recovered_lines, with_byte}
use Rattle.journal.specs.declared.entries.TheConstants.{MARK, NEWLINE}
use Rattle.journal.proofs.EntryLemmas.{Line, Lines, ended_lines-byte, entries-append, recovered_lines-entries, recovered_lines-entry}

-- ---- the first newline

before_newline : (bytes : List ℕ) (n : ℕ) → NoneBefore (Passes (is_byte 10) bytes) 0 (length bytes) n → IsLine (take n bytes)
before_newline bytes n first =
    All-from_get_or (λ c. c ≢ 10) (take n bytes) 0
    (λ k low e.
    let within : k < n = let long = length-take-le n bytes (let h = first.high in omega arith) in omega arith in
    first.before k (omega arith) within (eq-eqb _ _ (sym (get_or-take n bytes k 0 within) ∙ e)))

pub cut_at : (bytes : List ℕ) (n : ℕ) → NoneBefore (Passes (is_byte 10) bytes) 0 (length bytes) n → Passes (is_byte 10) bytes n
    → IsCut bytes (take n bytes) (take (length bytes - (n + 1)) (drop (n + 1) bytes))
cut_at bytes n first here = record {
  bytes_are =
      sym (take-append-drop n bytes)
      ∙ ap (λ rest. take n bytes ++ rest)
      (drop_more bytes n 0 first.high ∙ ap (λ c. c ∷ drop (n + 1) bytes) (eqb-true _ _ here) ∙ ap (λ rest. NEWLINE ∷ rest) (sym (take_rest bytes (n + 1))));
  in_line = before_newline bytes n first;
}

ended_lines-without_newline : (bytes : List ℕ) → Line bytes → ended_lines bytes ≡ []
ended_lines-without_newline [] plain = refl
ended_lines-without_newline (c ∷ cs) plain = ended_lines-byte c cs plain.0 ∙ ap (with_byte c) (ended_lines-without_newline cs plain.1)

pub ended_lines-nowhere : (bytes : List ℕ) → Nowhere (Passes (is_byte 10) bytes) 0 (length bytes) → ended_lines bytes ≡ []
ended_lines-nowhere bytes nowhere =
    ended_lines-without_newline bytes
    (recursion_from_All (λ c. c ≢ 10) bytes (All-from_get_or (λ c. c ≢ 10) bytes 0 (λ k low e. nowhere k (omega arith) low (eq-eqb _ _ e))))

-- ---- the first entry

-- a line after a mark is an entry
pub cut_entry : (cut : Option (Bor (List ℕ) × Bor (List ℕ))) (bytes : List ℕ) → CutsLine cut bytes → CutsEntry cut (MARK ∷ bytes)
cut_entry None bytes cuts = ap (λ (ls : List (List ℕ)). marked_lines (with_byte MARK ls)) cuts
cut_entry (Some p) bytes cuts = record {
  bytes_are = ap (λ (l : List ℕ). MARK ∷ l) cuts.bytes_are;
  in_line = cuts.in_line;
  lines_are =
      ap (λ (l : List ℕ). recovered_lines (MARK ∷ l)) cuts.bytes_are
      ∙ recovered_lines-entry p.0.now p.1.now (recursion_from_All (λ c. c ≢ 10) p.0.now cuts.in_line);
  shorter =
      let long : length bytes ≡ length p.0.now + length (NEWLINE ∷ p.1.now) = ap length cuts.bytes_are ∙ length-append p.0.now (NEWLINE ∷ p.1.now) in
      omega (arith, long);
}

-- ---- entry after entry

-- Some entries were read, and this is the rest.
pub record Read (bytes rest : List ℕ) : Type 0 where
  pub lines : List (List ℕ)
  pub plain : Lines lines
  pub bytes_are : bytes ≡ entries lines ++ rest

lines_push : (ls : List (List ℕ)) (l : List ℕ) → Lines ls → Line l → Lines (ls ++ l ∷ [])
lines_push [] l plain one = (one, tt)
lines_push (x ∷ ls) l plain one = (plain.0, lines_push ls l plain.1 one)

pub read_more : (bytes rest line more : List ℕ) → Read bytes rest → IsEntry rest line more → Read bytes more
read_more bytes rest line more so_far one = record {
  lines = so_far.lines ++ line ∷ [];
  plain = lines_push so_far.lines line so_far.plain (recursion_from_All (λ c. c ≢ 10) line one.in_line);
  bytes_are =
      so_far.bytes_are
      ∙ ap (λ l. entries so_far.lines ++ l) (one.bytes_are ∙ sym (append_assoc (MARK ∷ line) (NEWLINE ∷ []) more))
      ∙ sym (append_assoc (entries so_far.lines) (entries (line ∷ [])) more)
      ∙ ap (λ l. l ++ more) (sym (entries-append so_far.lines (line ∷ [])));
}

module _ (bytes rest : List ℕ) (read : Read bytes rest) (none : recovered_lines rest ≡ []) where
  -- all entries were read if the rest stands for no line
  recovered_lines-read : recovered_lines bytes ≡ read.lines
  recovered_lines-read =
      ap recovered_lines read.bytes_are
      ∙ recovered_lines-entries read.lines rest read.plain
      ∙ ap (λ (ls : List (List ℕ)). read.lines ++ ls) none
      ∙ append-nil read.lines

  pub read_split : bytes ≡ entries (recovered_lines bytes) ++ rest
  read_split = read.bytes_are ∙ ap (λ (ls : List (List ℕ)). entries ls ++ rest) (sym recovered_lines-read)

  pub read_len : length bytes ≡ length (entries (recovered_lines bytes)) + length rest
  read_len = ap length read_split ∙ length-append (entries (recovered_lines bytes)) rest

  pub read_drop : drop (length bytes - length rest) bytes ≡ rest
  read_drop =
      let n = length bytes - length rest in
      let at : length (entries (recovered_lines bytes)) ≡ n = omega (arith, read_len) in
      ap (λ l. drop n l) read_split ∙ drop_at (entries (recovered_lines bytes)) rest n at
