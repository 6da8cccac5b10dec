-- The lines that are noted, and the journal after a commit.
use Rattle.std.proofs.Common.{◌≡◌, ◌≢◌, ℕ, ◌+◌, ◌-◌, List, [], ◌∷◌, ◌++◌, length, sym, ◌∙◌, ap, arith, length-append}
use Rattle.std.proofs.lemmas.List.Elements.{recursion_from_All}
use Rattle.journal.specs.Disk.{IsDurable}
use Rattle.journal.specs.Journal.{IsSettled, journal_lines}
use Rattle.journal.specs.Lines.{AreEntries, IsLine, at_rest, entries, entry, recovered_lines}
use Rattle.journal.specs.declared.entries.TheConstants.{NEWLINE}
use Rattle.journal.specs.declared.journal.Journal.{Journal}
use Rattle.journal.proofs.EntryLemmas.{Lines, entries-append, recovered_lines-at_rest, recovered_lines-entries, recovered_lines-entry, recovered_lines-lines}

-- ---- entries

pub recovered_lines-append-entry : (bytes line : List ℕ) → AreEntries bytes → IsLine line → recovered_lines (bytes ++ entry line) ≡ recovered_lines bytes ++ line ∷ []
recovered_lines-append-entry bytes line are plain =
    ap (λ (l : List ℕ). recovered_lines (l ++ entry line)) are
    ∙ recovered_lines-entries (recovered_lines bytes) (entry line) (recovered_lines-lines bytes)
    ∙ ap (λ (ls : List (List ℕ)). recovered_lines bytes ++ ls) (recovered_lines-entry line [] (recursion_from_All (λ c. c ≢ NEWLINE) line plain))

pub entries_more : (bytes line : List ℕ) → AreEntries bytes → IsLine line → AreEntries (bytes ++ entry line)
entries_more bytes line are plain =
    ap (λ (l : List ℕ). l ++ entry line) are
    ∙ sym (entries-append (recovered_lines bytes) (line ∷ []))
    ∙ ap entries (sym (recovered_lines-append-entry bytes line are plain))

-- entries and a newline are at rest
pub recovered_lines-append-newline : (bytes : List ℕ) → AreEntries bytes → recovered_lines (bytes ++ NEWLINE ∷ []) ≡ recovered_lines bytes
recovered_lines-append-newline bytes are = ap (λ (l : List ℕ). recovered_lines (l ++ NEWLINE ∷ [])) are ∙ recovered_lines-at_rest (recovered_lines bytes) (recovered_lines-lines bytes)

pub text_at_rest : (bytes : List ℕ) → AreEntries bytes → bytes ++ NEWLINE ∷ [] ≡ at_rest (recovered_lines (bytes ++ NEWLINE ∷ []))
text_at_rest bytes are = ap (λ (l : List ℕ). l ++ NEWLINE ∷ []) are ∙ ap at_rest (sym (recovered_lines-append-newline bytes are))

-- ---- a commit

pub lines_both : (xs ys : List (List ℕ)) → Lines xs → Lines ys → Lines (xs ++ ys)
lines_both [] ys px py = py
lines_both (x ∷ xs) ys px py = (px.0, lines_both xs ys px.1 py)

-- the end of the entries after the entries of a text are appended
pub end_after : (lines : List (List ℕ)) (pending text : List ℕ) (end : ℕ) → AreEntries pending → text ≡ pending ++ NEWLINE ∷ [] → end ≡ length (entries lines)
    → end + (length text - 1) ≡ length (entries (lines ++ recovered_lines text))
end_after lines pending text end are is ends =
    let long : length text ≡ length pending + 1 = ap length is ∙ length-append pending (NEWLINE ∷ []) in
    let stands_for : recovered_lines text ≡ recovered_lines pending = ap recovered_lines is ∙ recovered_lines-append-newline pending are in
    let noted_long : length (entries (recovered_lines text)) ≡ length pending = ap (λ (ls : List (List ℕ)). length (entries ls)) stands_for ∙ ap length (sym are) in
    let both : length (entries (lines ++ recovered_lines text)) ≡ length (entries lines) + length (entries (recovered_lines text)) =
    ap length (entries-append lines (recovered_lines text)) ∙ length-append (entries lines) (entries (recovered_lines text)) in
    omega (arith, long, noted_long, both, ends)

-- a journal whose file is at rest, all of it on the disk
pub settled : {D : Type 0} (seen : D → List ℕ) (may_leave : D → List ℕ → Type 0) (journal : Journal D) (ls : List (List ℕ)) → Lines ls
    → seen journal.disk ≡ at_rest ls → journal.end ≡ length (entries ls) → IsDurable (seen journal.disk) (may_leave journal.disk)
    → AreEntries journal.pending.items → IsSettled seen may_leave journal × (journal_lines seen journal ≡ ls)
settled seen may_leave journal ls plain is ends durable pending =
    let stands_for : recovered_lines (seen journal.disk) ≡ ls = ap recovered_lines is ∙ recovered_lines-at_rest ls plain in (
      record {
        file = is ∙ ap at_rest (sym stands_for);
        end = ends ∙ ap (λ (l : List (List ℕ)). length (entries l)) (sym stands_for);
        durable = durable;
        pending = pending;
      },
      stands_for,
    )
