use Rattle.links.proofs.LegalLemmas.{plan_keeps_legal}
use Rattle.links.proofs.laws.a_plan_that_fits_keeps_a_set_legal.Goals as goal

pub returns : goal.returns
returns c = λ s plan legal fits. plan_keeps_legal s plan legal fits
