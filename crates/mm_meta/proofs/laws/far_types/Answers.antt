use Rattle.mm_meta.proofs.ShapeLemmas.{far_types_fit, takes_what_has_the_opposite}
use Rattle.mm_meta.proofs.laws.far_types.Goals as goal

pub returns-clause-takes : goal.returns-clause-takes
returns-clause-takes c = takes_what_has_the_opposite

pub returns-clause-fit : goal.returns-clause-fit
returns-clause-fit c = far_types_fit
