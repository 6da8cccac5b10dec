use Rattle.std.proofs.Common.{◌∙◌, None, Some, option_map, ap, sym}
use Rattle.script_program.proofs.PoolLemmas.{nothing-taken, nowhere-to-put}
use Rattle.script_program.proofs.pool.Pool.take.Goals as goal

pub returns-in-Some-None-clause-unchanged : goal.returns-in-Some-None-clause-unchanged
returns-in-Some-None-clause-unchanged g c = c.in-Some-None.ensures.after ∙ nothing-taken c.args.self.now c.args.no (sym c.in-Some-None.ensures.before ∙ ap (λ o. Some (option_map g.A.Adapter.heard o)) c.in-Some-None.field-0-is)

pub returns-in-None-clause-unchanged : goal.returns-in-None-clause-unchanged
returns-in-None-clause-unchanged g c = c.in-None.ensures.after ∙ nowhere-to-put None c.args.self.now c.args.no (sym c.in-None.ensures.before)
