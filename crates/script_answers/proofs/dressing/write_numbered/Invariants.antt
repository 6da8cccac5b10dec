use Rattle.std.proofs.Common.{◌≡◌, ◌++◌, length, List, ℕ}
use Rattle.std.specs.Io.KnownBytes.{Appends}
use Rattle.script_answers.specs.Dressed.{numbered_lines}
use Rattle.script_answers.proofs.dressing.write_numbered.Given as goal

abbrev pub invariant-lines : goal.invariant-lines
invariant-lines g l =
    (front : List ℕ)
    × Appends (g.W.Write.contents l.fn.writer) (g.W.Write.contents l.writer) front
    × (numbered_lines l.number l.answer ≡ front ++ numbered_lines l.number l.rest)

abbrev pub decreases-lines : goal.decreases-lines
decreases-lines g l = length l.rest
