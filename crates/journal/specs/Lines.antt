-- The lines that are recovered from a file, also after a crash.
use Rattle.std.specs.Prelude.{◌≡◌, ◌≢◌, ◌<◌, ℕ, List, [], ◌∷◌, ◌++◌, length, Option, Some, None, if◌then◌else◌, ◌==◌}
use Rattle.std.specs.Borrow.{Bor}
use Rattle.std.specs.List.{All}
use Rattle.journal.specs.declared.entries.TheConstants.{MARK, NEWLINE}

-- a list of lines, with the byte c added at the beginning of the first line; an empty list stays empty
abbrev pub with_byte : ℕ → List (List ℕ) → List (List ℕ)
with_byte c [] = []
with_byte c (l ∷ ls) = (c ∷ l) ∷ ls

-- the lines of some bytes, each without the newline that ends it; bytes after the last newline are no line
abbrev pub ended_lines : List ℕ → List (List ℕ)
ended_lines [] = []
ended_lines (c ∷ cs) = if c == NEWLINE then [] ∷ ended_lines cs else with_byte c (ended_lines cs)

-- the lines before the first line that does not begin with a mark; each of these lines is given without its mark
abbrev pub marked_lines : List (List ℕ) → List (List ℕ)
marked_lines [] = []
marked_lines ([] ∷ ls) = []
marked_lines ((c ∷ l) ∷ ls) = if c == MARK then l ∷ marked_lines ls else []

-- the lines that are recovered from a file: the lines of the entries at its front
abbrev pub recovered_lines : List ℕ → List (List ℕ)
recovered_lines file = marked_lines (ended_lines file)

abbrev pub IsLine : List ℕ → Type 0
IsLine l = All (λ c. c ≢ NEWLINE) l

-- the entry of a line in a file: a mark, the line, and a newline
abbrev pub entry : List ℕ → List ℕ
entry l = MARK ∷ l ++ NEWLINE ∷ []

abbrev pub entries : List (List ℕ) → List ℕ
entries [] = []
entries (l ∷ ls) = MARK ∷ l ++ NEWLINE ∷ entries ls

-- the entries of some lines, followed by a newline. The newline makes an empty line. An empty line has no mark, so neither it nor a line
-- after it is recovered
abbrev pub at_rest : List (List ℕ) → List ℕ
at_rest ls = entries ls ++ NEWLINE ∷ []

-- the bytes are the entries of some lines
abbrev pub AreEntries : List ℕ → Type 0
AreEntries bytes = bytes ≡ entries (recovered_lines bytes)

-- The bytes `bytes` are the line `line`, a newline, and the bytes `rest`. No newline is in the line.
pub record IsCut (bytes line rest : List ℕ) : Type 0 where
  pub bytes_are : bytes ≡ line ++ NEWLINE ∷ rest
  pub in_line : IsLine line

-- the result of taking the first line off some bytes: the line without its newline, and the bytes after the newline; none if there is no
-- newline in the bytes
abbrev pub CutsLine : Option (Bor (List ℕ) × Bor (List ℕ)) → List ℕ → Type 0
CutsLine None bytes = ended_lines bytes ≡ []
CutsLine (Some p) bytes = IsCut bytes p.0.now p.1.now

-- The bytes `bytes` begin with the entry of the line `line`, and `rest` is the bytes after this entry. The lines that are recovered from
-- `bytes` are `line`, and then the lines that are recovered from `rest`.
pub record IsEntry (bytes line rest : List ℕ) : Type 0 where
  pub bytes_are : bytes ≡ MARK ∷ line ++ NEWLINE ∷ rest
  pub in_line : IsLine line
  pub lines_are : recovered_lines bytes ≡ line ∷ recovered_lines rest
  pub shorter : length rest < length bytes

-- the result of taking the first entry off some bytes: the line of this entry, and the bytes after the entry; none if no line is recovered
-- from the bytes
abbrev pub CutsEntry : Option (Bor (List ℕ) × Bor (List ℕ)) → List ℕ → Type 0
CutsEntry None bytes = recovered_lines bytes ≡ []
CutsEntry (Some p) bytes = IsEntry bytes p.0.now p.1.now
