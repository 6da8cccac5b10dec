use Rattle.std.proofs.Common.{length}
use Rattle.script_lines.specs.Source.{bytes_of}
use Rattle.script_program.specs.Session.{session}
use Rattle.script_program.proofs.PlainLemmas.{Waits}
use Rattle.script_program.proofs.plain.run_plain.Given as goal

abbrev pub invariant-lines : goal.invariant-lines
invariant-lines g l =
    Waits (session l.fn.repository l.fn.pool) l.input (bytes_of l.rest) (session l.repository l.pool) l.summary (g.W.Write.contents l.fn.writer) (g.W.Write.contents l.writer) l.block

abbrev pub decreases-lines : goal.decreases-lines
decreases-lines g l = length (bytes_of l.rest)
