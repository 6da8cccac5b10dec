-- How lines are counted, and an upper bound of the counts.
use Rattle.std.specs.Prelude.{◌+◌, ◌≤◌, ℕ, List, map, fold, Ok, Err, if◌then◌else◌}
use Rattle.repository.specs.Run.{is_memory}
use Rattle.repository.specs.Views.{Outcome}
use Rattle.script_answers.specs.Turns.{Printed}
use Rattle.script_answers.specs.declared.turn.Turn.{Turn}
use Rattle.script_answers.specs.declared.turn.Turn.TheVariants as turned
use Rattle.script_program.specs.declared.summary.Summary.{Summary}

-- how the outcome of a command is counted
abbrev pub outcome_turn : Outcome → Turn
outcome_turn (Ok r) = turned.Done
outcome_turn (Err f) = if is_memory (Err f) then turned.Lost else turned.Refused

-- the counts after one more line
abbrev pub with_turn : Summary → Turn → Summary
with_turn s turned.Blank = s
with_turn s turned.Bad = record s { lines = s.lines + 1; bad = s.bad + 1 }
with_turn s turned.Done = record s { lines = s.lines + 1 }
with_turn s turned.Refused = record s { lines = s.lines + 1; refused = s.refused + 1 }
with_turn s turned.Lost = record s { lines = s.lines + 1; refused = s.refused + 1; no_memory = s.no_memory + 1 }

abbrev pub no_lines : Summary
no_lines = record { lines = 0; refused = 0; bad = 0; no_memory = 0 }

-- the counts of lines
abbrev pub summary_of : List Printed → Summary
summary_of ps = fold with_turn no_lines (map (λ p. p.turn) ps)

-- no count is greater than n
pub record IsWithin (s : Summary) (n : ℕ) : Type 0 where
  pub lines : s.lines ≤ n
  pub refused : s.refused ≤ n
  pub bad : s.bad ≤ n
  pub no_memory : s.no_memory ≤ n
