use Rattle.mmrepo_lib.proofs.ReloadLemmas.{loads-between}
use Rattle.mmrepo_lib.proofs.laws.loads_in_any_order_give_what_stands_between.Goals as goal

pub returns : goal.returns
returns c = loads-between
