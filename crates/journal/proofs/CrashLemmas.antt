-- What a crash leaves in each of the two writes of a commit.
use Rattle.std.proofs.Common.{◌≡◌, inl, inr, ℕ, ◌+◌, ◌-◌, ◌<◌, List, [], ◌∷◌, ◌++◌, length, get_or, take, drop, refl, sym, ◌∙◌, ap, subst, arith, append_assoc, length-append, take-append-drop}
use Rattle.std.proofs.lemmas.Bool.{cases_eq}
use Rattle.std.proofs.lemmas.List.{append-nil, drop_all, drop_at, drop_more, take_all, take_at, take_rest}
use Rattle.journal.specs.Disk.{Follows, IsDurable, Overwrites, Torn}
use Rattle.journal.specs.Journal.{IsBeforeOrAfter}
use Rattle.journal.specs.Lines.{at_rest, entries, recovered_lines}
use Rattle.journal.specs.declared.entries.TheConstants.{MARK, NEWLINE}
use Rattle.journal.proofs.EntryLemmas.{entries-append, recovered_lines-entries, recovered_lines-lines, recovered_lines-stopped}

-- a text without its first byte, as a slice has it
abbrev pub tail_of : List ℕ → List ℕ
tail_of text = take (length text - 1) (drop 1 text)

at_rest-marked : (ls : List (List ℕ)) → 1 < length (at_rest ls) → at_rest ls ≡ MARK ∷ drop 1 (at_rest ls)
at_rest-marked [] some = absurd (omega arith)
at_rest-marked (l ∷ ls) some = refl

-- a file at rest, and the text of a commit
module _ (file text : List ℕ) (end : ℕ) (file_is : file ≡ at_rest (recovered_lines file)) (ends : end ≡ length (entries (recovered_lines file)))
    (text_is : text ≡ at_rest (recovered_lines text)) (some : 1 < length text) where
  abbrev lines : List (List ℕ)
  lines = recovered_lines file

  abbrev more : List (List ℕ)
  more = recovered_lines text

  abbrev tail : List ℕ
  tail = tail_of text

  -- the file after the first write: in place of the mark there is still a newline
  abbrev pub staged : List ℕ
  staged = entries lines ++ NEWLINE ∷ tail

  tail_is : MARK ∷ tail ≡ at_rest more
  tail_is =
      ap (λ (l : List ℕ). MARK ∷ l) (take_rest text 1)
      ∙ ap (λ (l : List ℕ). MARK ∷ drop 1 l) text_is
      ∙ sym (at_rest-marked more (subst (λ (l : List ℕ). 1 < length l) text_is some))

  pub length-file : length file ≡ end + 1
  length-file = omega (arith, ap length file_is, ends, length-append (entries lines) (NEWLINE ∷ []))

  pub length-staged : length staged ≡ end + 1 + length tail
  length-staged = omega (arith, ends, length-append (entries lines) (NEWLINE ∷ tail))

  -- ---- the first write

  -- whatever a crash in the first write leaves, the newline is there
  torn_behind : (n : ℕ) (c : List ℕ) → Torn (end + 1) n file c → recovered_lines c ≡ lines
  torn_behind n c torn =
      let front : take (end + 1) c ≡ at_rest lines = torn.front ∙ take_all (end + 1) file (omega (arith, length-file)) ∙ file_is in
      let whole : c ≡ entries lines ++ NEWLINE ∷ drop (end + 1) c =
      sym (take-append-drop (end + 1) c) ∙ ap (λ (l : List ℕ). l ++ drop (end + 1) c) front ∙ append_assoc (entries lines) (NEWLINE ∷ []) (drop (end + 1) c) in
      ap recovered_lines whole ∙ recovered_lines-stopped lines NEWLINE (drop (end + 1) c) (recovered_lines-lines file) (omega arith)

  pub stage_crash : (n : ℕ) (old new : List ℕ → Type 0) → IsDurable file old → Follows (Torn (end + 1) n) old new → (c : List ℕ) → new c → recovered_lines c ≡ lines
  stage_crash n old new only follows c left =
      let from = follows c left in
      torn_behind n c (subst (λ f. Torn (end + 1) n f c) (only from.0 from.1) from.2)

  pub staged_is : (c : List ℕ) → Overwrites (end + 1) tail file c → c ≡ staged
  staged_is c written =
      written
      ∙ ap (λ (l : List ℕ). l ++ tail ++ drop (end + 1 + length tail) file) (take_all (end + 1) file (omega (arith, length-file)) ∙ file_is)
      ∙ ap (λ (l : List ℕ). at_rest lines ++ tail ++ l) (drop_all (end + 1 + length tail) file (omega (arith, length-file)))
      ∙ append-nil (at_rest lines ++ tail)
      ∙ append_assoc (entries lines) (NEWLINE ∷ []) tail

  -- ---- the second write

  front : take end staged ≡ entries lines
  front = take_at (entries lines) (NEWLINE ∷ tail) end (sym ends)

  back : drop (end + 1) staged ≡ tail
  back =
      let split : staged ≡ at_rest lines ++ tail = sym (append_assoc (entries lines) (NEWLINE ∷ []) tail) in
      ap (λ (l : List ℕ). drop (end + 1) l) split ∙ drop_at (at_rest lines) tail (end + 1) (sym (ap length file_is) ∙ length-file)

  -- whatever byte is in place of the mark, all lines of the text count, or none does
  marked_by : (b : ℕ) → IsBeforeOrAfter lines more (entries lines ++ b ∷ tail)
  marked_by b = elim (cases_eq b MARK) [
    | inl is ↦ inr
        (ap (λ (k : ℕ). recovered_lines (entries lines ++ k ∷ tail)) is
        ∙ recovered_lines-entries lines (MARK ∷ tail) (recovered_lines-lines file)
        ∙ ap (λ (l : List ℕ). lines ++ recovered_lines l) (tail_is ∙ sym text_is))
    | inr other ↦ inl (recovered_lines-stopped lines b tail (recovered_lines-lines file) other)
  ]

  torn_mark : (c : List ℕ) → Torn end 1 staged c → IsBeforeOrAfter lines more c
  torn_mark c torn =
      let b = get_or c end 0 in
      let rest : drop end c ≡ b ∷ tail =
      drop_more c end 0 (omega (arith, length-staged, torn.at_least)) ∙ ap (λ (l : List ℕ). b ∷ l) (torn.back ∙ back) in
      let whole : c ≡ entries lines ++ b ∷ tail =
      sym (take-append-drop end c) ∙ ap (λ (l : List ℕ). l ++ drop end c) (torn.front ∙ front) ∙ ap (λ (l : List ℕ). entries lines ++ l) rest in
      subst (IsBeforeOrAfter lines more) (sym whole) (marked_by b)

  pub mark_crash : (old new : List ℕ → Type 0) → IsDurable staged old → Follows (Torn end 1) old new → (c : List ℕ) → new c → IsBeforeOrAfter lines more c
  mark_crash old new only follows c left =
      let from = follows c left in
      torn_mark c (subst (λ f. Torn end 1 f c) (only from.0 from.1) from.2)

  pub marked_is : (c : List ℕ) → Overwrites end (MARK ∷ []) staged c → c ≡ at_rest (lines ++ more)
  marked_is c written =
      written
      ∙ ap (λ (l : List ℕ). l ++ (MARK ∷ []) ++ drop (end + 1) staged) front
      ∙ ap (λ (l : List ℕ). entries lines ++ (MARK ∷ []) ++ l) back
      ∙ append_assoc (entries lines) (MARK ∷ []) tail
      ∙ ap (λ (l : List ℕ). entries lines ++ l) tail_is
      ∙ sym (append_assoc (entries lines) (entries more) (NEWLINE ∷ []))
      ∙ ap (λ (l : List ℕ). l ++ NEWLINE ∷ []) (sym (entries-append lines more))
