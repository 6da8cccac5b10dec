use Rattle.links.proofs.KindLemmas.{plan_keeps_kinds}
use Rattle.links.proofs.laws.a_plan_keeps_the_kinds.Goals as goal

pub returns : goal.returns
returns c = λ m ok s plan are is. plan_keeps_kinds m ok s plan are is
