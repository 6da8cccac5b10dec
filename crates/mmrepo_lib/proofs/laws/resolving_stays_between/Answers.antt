use Rattle.mmrepo_lib.proofs.ReloadLemmas.{resolves-stay-between}
use Rattle.mmrepo_lib.proofs.laws.resolving_stays_between.Goals as goal

pub returns : goal.returns
returns c = resolves-stay-between
