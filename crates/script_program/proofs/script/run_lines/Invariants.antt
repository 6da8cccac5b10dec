use Rattle.std.proofs.Common.{length, List}
use Rattle.script_lines.specs.Source.{bytes_of}
use Rattle.script_program.specs.Session.{Session}
use Rattle.script_answers.specs.Turns.{Printed}
use Rattle.script_program.proofs.ScriptLemmas.{GoesOn}
use Rattle.script_program.proofs.script.run_lines.Given as goal

abbrev pub invariant-lines : goal.invariant-lines
invariant-lines g l =
    let first : Session = record { state = l.fn.repository; pool = l.fn.pool } in
    let now : Session = record { state = l.repository; pool = l.pool } in
    (printed : List Printed)
    × GoesOn l.dress first l.input (bytes_of l.rest) now l.number printed l.summary (g.W.Write.contents l.fn.writer) (g.W.Write.contents l.writer)

abbrev pub decreases-lines : goal.decreases-lines
decreases-lines g l = length (bytes_of l.rest)
