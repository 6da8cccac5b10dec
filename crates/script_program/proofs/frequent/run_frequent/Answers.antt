use Rattle.std.proofs.Common.{ap}
use Rattle.frequent_lines.specs.Frequent.{frequent_line}
use Rattle.script_program.proofs.LeftLemmas.{unchanged}
use Rattle.script_program.proofs.frequent.run_frequent.Goals as goal

pub returns-in-New-clause-ok : goal.returns-in-New-clause-ok
returns-in-New-clause-ok g c = rw (ap frequent_line c.in-New.is) (c.run_create.ensures.ok c.args.pool.now)

pub returns-in-Container-clause-ok : goal.returns-in-Container-clause-ok
returns-in-Container-clause-ok g c = rw (ap frequent_line c.in-Container.is) (c.run_container.ensures c.args.pool.now)

pub returns-in-Fragment-clause-ok : goal.returns-in-Fragment-clause-ok
returns-in-Fragment-clause-ok g c = rw (ap frequent_line c.in-Fragment.is) (c.run_fragment.ensures.ok c.args.pool.now)

pub returns-in-At-clause-ok : goal.returns-in-At-clause-ok
returns-in-At-clause-ok g c = rw (ap frequent_line c.in-At.is) c.run_at.ensures.ok

-- ---- what is left if the answer could not be added

pub returns-in-New-clause-left : goal.returns-in-New-clause-left
returns-in-New-clause-left g c = rw (ap frequent_line c.in-New.is) (c.run_create.ensures.left c.args.pool.now)

pub returns-in-Container-clause-left : goal.returns-in-Container-clause-left
returns-in-Container-clause-left g c = unchanged c.run_container.result _ c.args.repository.now

pub returns-in-Fragment-clause-left : goal.returns-in-Fragment-clause-left
returns-in-Fragment-clause-left g c = rw (ap frequent_line c.in-Fragment.is) (c.run_fragment.ensures.left c.args.pool.now)

pub returns-in-At-clause-left : goal.returns-in-At-clause-left
returns-in-At-clause-left g c = rw (ap frequent_line c.in-At.is) c.run_at.ensures.left
