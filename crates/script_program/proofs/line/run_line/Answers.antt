use Rattle.script_program.specs.Session.{session}
use Rattle.script_program.proofs.LeftLemmas.{unchanged}
use Rattle.script_program.proofs.line.run_line.Goals as goal

-- a line that is no UTF-8 is bad
pub returns-in-None-clause-ok : goal.returns-in-None-clause-ok
returns-in-None-clause-ok g c = rw c.in-None.ensures (c.print_bad.ensures (session c.args.repository.now c.args.pool.now))

pub returns-in-None-clause-left : goal.returns-in-None-clause-left
returns-in-None-clause-left g c = unchanged c.print_bad.result _ c.args.repository.now

pub returns-in-Some-clause-left : goal.returns-in-Some-clause-left
returns-in-Some-clause-left g c = rw c.in-Some.ensures c.run_text_line.ensures.left
