use Rattle.reloading.proofs.LeftLemmas.{none-left}
use Rattle.reloading.proofs.laws.with_no_proxy_left_none_stands.Goals as goal

pub returns : goal.returns
returns c = none-left
