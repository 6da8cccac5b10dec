use Rattle.std.proofs.Common.{◌≡◌, ◌++◌, drop, map}
use Rattle.script_program.specs.Answers.{all_released_text}
use Rattle.script_program.proofs.answers.print_released.Given as goal

abbrev pub invariant-loop-no : goal.invariant-loop-no
invariant-loop-no g l = l.output ++ all_released_text (map (λ b. (b.0, g.A.Adapter.heard b.1)) (drop l.no-index l.released)) ≡ l.fn.output ++ all_released_text (map (λ b. (b.0, g.A.Adapter.heard b.1)) l.fn.released)
