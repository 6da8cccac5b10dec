use Rattle.reloading.proofs.OrdersLemmas.{loads-give-between}
use Rattle.reloading.proofs.laws.loads_in_any_order_give_what_stands_between.Goals as goal

pub returns : goal.returns
returns c = loads-give-between
