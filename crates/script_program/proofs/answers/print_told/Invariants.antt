use Rattle.std.proofs.Common.{◌≡◌, ◌++◌, drop}
use Rattle.script_program.specs.Answers.{told_text}
use Rattle.script_program.proofs.answers.print_told.Given as goal

abbrev pub invariant-loop-no : goal.invariant-loop-no
invariant-loop-no l = l.output ++ told_text l.meta (drop l.no-index l.told) ≡ l.fn.output ++ told_text l.fn.meta l.fn.told
