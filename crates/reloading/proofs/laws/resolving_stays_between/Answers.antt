use Rattle.reloading.proofs.ResolveLemmas.{resolves-between}
use Rattle.reloading.proofs.laws.resolving_stays_between.Goals as goal

pub returns : goal.returns
returns c = resolves-between
