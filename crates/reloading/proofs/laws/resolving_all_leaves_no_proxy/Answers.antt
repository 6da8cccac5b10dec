use Rattle.reloading.proofs.ResolveAllLemmas.{resolves-all}
use Rattle.reloading.proofs.laws.resolving_all_leaves_no_proxy.Goals as goal

pub returns : goal.returns
returns c = resolves-all
