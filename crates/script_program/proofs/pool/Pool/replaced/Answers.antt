use Rattle.std.proofs.Common.{◌≡◌, ◌-◌, Some, rules}
use Rattle.script_program.specs.Pool.{index}
use Rattle.script_program.proofs.PoolLemmas.{with_entry-set}
use Rattle.script_program.proofs.pool.Pool.replaced.Goals as goal

pub returns-clause-after : goal.returns-clause-after
returns-clause-after g c =
    let found : index c.args.no ≡ Some (c.args.no.0 - 1) = search rules in
    rw (← c.self.view_is, c.replace.ensures.after) (with_entry-set g.A.Adapter.heard c.self.inside.boxes.items c.args.no (c.args.no.0 - 1) c.args.entry found)
