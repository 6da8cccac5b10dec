use Rattle.std.proofs.Common.{◌-◌, List}
use Rattle.std.specs.Io.Buffered.{reader_remaining}
use Rattle.script_program.specs.Session.{Session}
use Rattle.script_answers.specs.Turns.{Printed}
use Rattle.script_program.proofs.LiveLemmas.{Goes}
use Rattle.script_program.proofs.live.answer_lines.Given as goal

abbrev pub invariant-lines : goal.invariant-lines
invariant-lines g l =
    let first : Session = record { state = l.fn.repository; pool = l.fn.pool } in
    let now : Session = record { state = l.repository; pool = l.pool } in
    (printed : List Printed)
    × Goes first (reader_remaining g.R.Read.remaining l.fn.reader) (reader_remaining g.R.Read.remaining l.reader) now l.number printed l.summary
    (g.W.Write.contents l.fn.writer) (g.W.Write.contents l.writer)

abbrev pub decreases-lines : goal.decreases-lines
decreases-lines g l = 18446744073709551615 - l.number
