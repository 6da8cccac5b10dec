use Rattle.links.proofs.CycleLemmas.{plan_makes_no_cycle}
use Rattle.links.proofs.laws.a_plan_makes_no_cycle.Goals as goal

pub returns : goal.returns
returns c = λ s plan legal fits out free. plan_makes_no_cycle s plan legal fits out free
