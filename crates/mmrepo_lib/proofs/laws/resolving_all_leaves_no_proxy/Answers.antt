use Rattle.mmrepo_lib.proofs.ReloadLemmas.{all-at-once}
use Rattle.mmrepo_lib.proofs.laws.resolving_all_leaves_no_proxy.Goals as goal

pub returns : goal.returns
returns c = all-at-once
