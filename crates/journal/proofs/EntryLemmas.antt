-- The lines that files of entries stand for.
use Rattle.std.proofs.Common.{◌≡◌, ◌≢◌, inl, inr, ℕ, zero, suc, ◌≤◌, List, [], ◌∷◌, ◌++◌, length, take, refl, sym, ◌∙◌, ap, subst, arith, append_assoc}
use Rattle.std.specs.List.{AllByRecursion}
use Rattle.std.proofs.lemmas.List.{append-nil}
use Rattle.std.proofs.lemmas.Bool.{cases_eq}
use Rattle.std.proofs.lemmas.Bool.Decides.{nat_tests}
use Rattle.journal.specs.Lines.{at_rest, ended_lines, entries, marked_lines, recovered_lines, with_byte}
use Rattle.journal.specs.declared.entries.TheConstants.{MARK, NEWLINE}

abbrev pub Line : List ℕ → Type 0
Line = AllByRecursion (λ c. c ≢ NEWLINE)

abbrev pub Lines : List (List ℕ) → Type 0
Lines = AllByRecursion Line

-- ---- lines and their newlines

ended_lines-newline : (c : ℕ) (cs : List ℕ) → c ≡ NEWLINE → ended_lines (c ∷ cs) ≡ [] ∷ ended_lines cs
ended_lines-newline c cs is = grind (arith, nat_tests)

-- any other byte is a byte of the first line
pub ended_lines-byte : (c : ℕ) (cs : List ℕ) → c ≢ NEWLINE → ended_lines (c ∷ cs) ≡ with_byte c (ended_lines cs)
ended_lines-byte c cs other = grind (arith, nat_tests)

pub ended_lines-line : (l rest : List ℕ) → Line l → ended_lines (l ++ NEWLINE ∷ rest) ≡ l ∷ ended_lines rest
ended_lines-line [] rest plain = refl
ended_lines-line (c ∷ l) rest plain = ended_lines-byte c (l ++ NEWLINE ∷ rest) plain.0 ∙ ap (with_byte c) (ended_lines-line l rest plain.1)

with_byte-lines : (c : ℕ) (ls : List (List ℕ)) → c ≢ NEWLINE → Lines ls → Lines (with_byte c ls)
with_byte-lines c [] other plain = plain
with_byte-lines c (l ∷ ls) other plain = ((other, plain.0), plain.1)

ended_lines-lines : (file : List ℕ) → Lines (ended_lines file)
ended_lines-lines [] = tt
ended_lines-lines (c ∷ cs) = elim (cases_eq c NEWLINE) [
  | inl is ↦ subst Lines (sym (ended_lines-newline c cs is)) (tt, ended_lines-lines cs)
  | inr other ↦ subst Lines (sym (ended_lines-byte c cs other)) (with_byte-lines c (ended_lines cs) other (ended_lines-lines cs))
]

-- ---- lines and their marks

marked_lines-mark : (c : ℕ) (l : List ℕ) (ls : List (List ℕ)) → c ≡ MARK → marked_lines ((c ∷ l) ∷ ls) ≡ l ∷ marked_lines ls
marked_lines-mark c l ls is = grind (arith, nat_tests)

marked_lines-other : (c : ℕ) (l : List ℕ) (ls : List (List ℕ)) → c ≢ MARK → marked_lines ((c ∷ l) ∷ ls) ≡ []
marked_lines-other c l ls other = grind (arith, nat_tests)

marked_lines-with_other : (c : ℕ) (ls : List (List ℕ)) → c ≢ MARK → marked_lines (with_byte c ls) ≡ []
marked_lines-with_other c [] other = refl
marked_lines-with_other c (l ∷ ls) other = marked_lines-other c l ls other

marked_lines-lines : (ls : List (List ℕ)) → Lines ls → Lines (marked_lines ls)
marked_lines-lines [] plain = tt
marked_lines-lines ([] ∷ ls) plain = tt
marked_lines-lines ((c ∷ l) ∷ ls) plain = elim (cases_eq c MARK) [
  | inl is ↦ subst Lines (sym (marked_lines-mark c l ls is)) (plain.0.1, marked_lines-lines ls plain.1)
  | inr other ↦ subst Lines (sym (marked_lines-other c l ls other)) tt
]

-- ---- what a file stands for

-- no line of a file has a newline
pub recovered_lines-lines : (file : List ℕ) → Lines (recovered_lines file)
recovered_lines-lines file = marked_lines-lines (ended_lines file) (ended_lines-lines file)

pub recovered_lines-entry : (l rest : List ℕ) → Line l → recovered_lines (MARK ∷ l ++ NEWLINE ∷ rest) ≡ l ∷ recovered_lines rest
recovered_lines-entry l rest plain = ap (λ (ls : List (List ℕ)). marked_lines (with_byte MARK ls)) (ended_lines-line l rest plain)

pub recovered_lines-entries : (ls : List (List ℕ)) (rest : List ℕ) → Lines ls → recovered_lines (entries ls ++ rest) ≡ ls ++ recovered_lines rest
recovered_lines-entries [] rest plain = refl
recovered_lines-entries (l ∷ ls) rest plain =
    ap (λ (bytes : List ℕ). recovered_lines (MARK ∷ bytes)) (append_assoc l (NEWLINE ∷ entries ls) rest)
    ∙ recovered_lines-entry l (entries ls ++ rest) plain.0
    ∙ ap (λ (more : List (List ℕ)). l ∷ more) (recovered_lines-entries ls rest plain.1)

-- a file stands for no line if its first byte is not the mark
pub recovered_lines-other : (c : ℕ) (rest : List ℕ) → c ≢ MARK → recovered_lines (c ∷ rest) ≡ []
recovered_lines-other c rest other = elim (cases_eq c NEWLINE) [
  | inl is ↦ ap marked_lines (ended_lines-newline c rest is)
  | inr no_end ↦ ap marked_lines (ended_lines-byte c rest no_end) ∙ marked_lines-with_other c (ended_lines rest) other
]

-- entries, and a rest that stands for no line
pub recovered_lines-entries_alone : (ls : List (List ℕ)) (rest : List ℕ) → Lines ls → recovered_lines rest ≡ [] → recovered_lines (entries ls ++ rest) ≡ ls
recovered_lines-entries_alone ls rest plain none =
    recovered_lines-entries ls rest plain ∙ ap (λ (more : List (List ℕ)). ls ++ more) none ∙ append-nil ls

pub recovered_lines-stopped : (ls : List (List ℕ)) (c : ℕ) (rest : List ℕ) → Lines ls → c ≢ MARK → recovered_lines (entries ls ++ c ∷ rest) ≡ ls
recovered_lines-stopped ls c rest plain other = recovered_lines-entries_alone ls (c ∷ rest) plain (recovered_lines-other c rest other)

pub recovered_lines-at_rest : (ls : List (List ℕ)) → Lines ls → recovered_lines (at_rest ls) ≡ ls
recovered_lines-at_rest ls plain = recovered_lines-stopped ls NEWLINE [] plain (omega arith)

pub entries-append : (xs ys : List (List ℕ)) → entries (xs ++ ys) ≡ entries xs ++ entries ys
entries-append [] ys = refl
entries-append (x ∷ xs) ys =
    ap (λ (bytes : List ℕ). MARK ∷ x ++ NEWLINE ∷ bytes) (entries-append xs ys)
    ∙ sym (append_assoc (MARK ∷ x) (NEWLINE ∷ entries xs) (entries ys))

-- ---- a prefix of what stands for nothing

with_byte-none : (c : ℕ) (ls : List (List ℕ)) → with_byte c ls ≡ [] → ls ≡ []
with_byte-none c [] none = refl
with_byte-none c (l ∷ ls) none = absurd (cc none)

marked_lines-with_mark-none : (ls : List (List ℕ)) → marked_lines (with_byte MARK ls) ≡ [] → ls ≡ []
marked_lines-with_mark-none [] none = refl
marked_lines-with_mark-none (l ∷ ls) none = absurd (cc none)

ended_lines-take-none : (n : ℕ) (bytes : List ℕ) → ended_lines bytes ≡ [] → ended_lines (take n bytes) ≡ []
ended_lines-take-none zero bytes none = refl
ended_lines-take-none (suc n) [] none = refl
ended_lines-take-none (suc n) (c ∷ cs) none = elim (cases_eq c NEWLINE) [
  | inl is ↦ let line = ended_lines-newline c cs is in absurd (cc (line, none))
  | inr other ↦
      let rest = with_byte-none c (ended_lines cs) (sym (ended_lines-byte c cs other) ∙ none) in
      ended_lines-byte c (take n cs) other ∙ ap (with_byte c) (ended_lines-take-none n cs rest)
]

pub recovered_lines-take-none : (n : ℕ) (bytes : List ℕ) → recovered_lines bytes ≡ [] → recovered_lines (take n bytes) ≡ []
recovered_lines-take-none zero bytes none = refl
recovered_lines-take-none (suc n) [] none = refl
recovered_lines-take-none (suc n) (c ∷ cs) none = elim (cases_eq c MARK) [
  | inl is ↦
      let rest = marked_lines-with_mark-none (ended_lines cs) (ap (λ (b : ℕ). recovered_lines (b ∷ cs)) (sym is) ∙ none) in
      ap (λ (b : ℕ). recovered_lines (b ∷ take n cs)) is ∙ ap (λ (ls : List (List ℕ)). marked_lines (with_byte MARK ls)) (ended_lines-take-none n cs rest)
  | inr other ↦ recovered_lines-other c (take n cs) other
]

-- one byte is no line
pub recovered_lines-short : (bytes : List ℕ) → length bytes ≤ 1 → recovered_lines bytes ≡ []
recovered_lines-short [] short = refl
recovered_lines-short (c ∷ []) short = elim (cases_eq c MARK) [
  | inl is ↦ ap (λ (b : ℕ). recovered_lines (b ∷ [])) is
  | inr other ↦ recovered_lines-other c [] other
]
recovered_lines-short (c ∷ d ∷ bytes) short = absurd (omega arith)
