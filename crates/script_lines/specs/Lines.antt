-- The lines of a script. In the script a newline follows each line, except perhaps the last.
use Rattle.std.specs.Prelude.{ℕ, ◌==◌, ◌≡◌, ◌<◌, ◌++◌, Bool, not, List, [], ◌∷◌, Option, Some, None, length, if◌then◌else◌}
use Rattle.std.specs.Borrow.{Bor}
use Rattle.std.specs.List.{after_first, before_first, list_all}
use Rattle.script_lines.specs.declared.grammar.TheConstants.{NEWLINE}

-- the lines, with the byte c added at the front of the first line; if there is no line, one line that is only this byte
abbrev pub with_byte : ℕ → List (List ℕ) → List (List ℕ)
with_byte c [] = (c ∷ []) ∷ []
with_byte c (l ∷ ls) = (c ∷ l) ∷ ls

abbrev pub is_newline : ℕ → Bool
is_newline c = c == NEWLINE

abbrev pub lines : List ℕ → List (List ℕ)
lines [] = []
lines (c ∷ cs) = if is_newline c then [] ∷ lines cs else with_byte c (lines cs)

-- the bytes of all lines, with a newline after each line
abbrev pub with_newlines : List (List ℕ) → List ℕ
with_newlines [] = []
with_newlines (l ∷ ls) = l ++ NEWLINE ∷ with_newlines ls

abbrev pub has_no_newline : List ℕ → Bool
has_no_newline l = list_all (λ c. not (is_newline c)) l

-- bytes are cut after their first line: `line` has the bytes before the first newline, and `rest` those after it; if there is no newline,
-- `line` has all bytes, and `rest` none
pub record IsCut (bytes line rest : List ℕ) : Type 0 where
  pub line_is : line ≡ before_first is_newline bytes
  pub rest_is : rest ≡ after_first is_newline bytes
  pub shorter : length rest < length bytes
  pub lines_are : lines bytes ≡ line ∷ lines rest

-- the result of a cut is the first line of some bytes and the rest, or none if there are no bytes
abbrev pub CutsLine : Option (Bor (List ℕ) × Bor (List ℕ)) → List ℕ → Type 0
CutsLine None bytes = length bytes ≡ 0
CutsLine (Some p) bytes = IsCut bytes p.0.now p.1.now
