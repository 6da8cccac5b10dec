-- What lines print, and which lines are kept.
use Rattle.std.specs.Prelude.{◌≡◌, ◌⊎◌, ℕ, Bool, true, false, List, [], ◌∷◌, ◌++◌, if◌then◌else◌}
use Rattle.std.specs.List.{flat_map}
use Rattle.durable.specs.declared.session.TheConstants.{NEWLINE}
use Rattle.durable.specs.declared.session.JournalTurn.{JournalTurn}
use Rattle.durable.specs.declared.session.JournalTurn.TheVariants as turned

abbrev pub is_kept : JournalTurn → Bool
is_kept turned.Kept = true
is_kept turned.Other = false
is_kept turned.Lost = false

abbrev pub is_lost : JournalTurn → Bool
is_lost turned.Kept = false
is_lost turned.Other = false
is_lost turned.Lost = true

-- the output of a line, and how the line ended
pub record Printed : Type 0 where
  pub text : List ℕ
  pub turn : JournalTurn

-- the answer that is written for a line: the text that it printed, and an empty line
abbrev pub answer : Printed → List ℕ
answer p = p.text ++ NEWLINE ∷ []

-- the answers that are written for some lines
abbrev pub answers : List Printed → List ℕ
answers = flat_map answer

-- a list with the line if the line is kept, and otherwise the empty list
abbrev pub kept_line : List ℕ → Printed → List (List ℕ)
kept_line l p = if is_kept p.turn then l ∷ [] else []

-- the lines that are kept; ps says what each line printed and how it ended, and a line without an entry in ps is not kept
abbrev pub kept_lines : List (List ℕ) → List Printed → List (List ℕ)
kept_lines [] ps = []
kept_lines (l ∷ ls) [] = []
kept_lines (l ∷ ls) (p ∷ ps) = kept_line l p ++ kept_lines ls ps

-- how a session runs a line: the session before, the line, its output and how it ended, and the session after
abbrev pub Runs : Type 0 → Type 1
Runs S = S → List ℕ → Printed → S → Type 0

-- A line was run, and its output was appended to a text.
pub record AddsRun {S : Type 0} (runs : Runs S) (s : S) (line old new : List ℕ) (turn : JournalTurn) (t : S) : Type 0 where
  pub text : List ℕ
  pub added : new ≡ old ++ text
  pub ran : runs s line (record { text = text; turn = turn }) t

module _ {S : Type 0} (runs : Runs S) where
  -- lines were run in turn: the output of each, and the session after the last
  abbrev pub RunsLines : S → List (List ℕ) → List Printed → S → Type 0
  RunsLines s [] [] t = t ≡ s
  RunsLines s [] (p ∷ ps) t = ⊥
  RunsLines s (l ∷ ls) [] t = ⊥
  RunsLines s (l ∷ ls) (p ∷ ps) t = (u : S) × runs s l p u × RunsLines u ls ps t

  -- lines were run in turn from the session s on, each was done and is kept, and t is the session after the last line
  abbrev pub RunsKept : S → List (List ℕ) → S → Type 0
  RunsKept s [] t = t ≡ s
  RunsKept s (l ∷ ls) t = (p : Printed) × (u : S) × runs s l p u × (is_kept p.turn ≡ true) × RunsKept u ls t

  -- lines were run in turn and kept, until one was not kept for a reason other than lack of memory
  abbrev pub Refuses : S → List (List ℕ) → Type 0
  Refuses s [] = ⊥
  Refuses s (l ∷ ls) =
      (p : Printed) × (u : S) × runs s l p u
      × (((is_kept p.turn ≡ false) × (is_lost p.turn ≡ false)) ⊎ ((is_kept p.turn ≡ true) × Refuses u ls))
