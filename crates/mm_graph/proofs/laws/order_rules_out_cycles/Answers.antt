use Rattle.mm_graph.proofs.Reaching.{no_cycle}
use Rattle.mm_graph.proofs.laws.order_rules_out_cycles.Goals as goal

pub returns : goal.returns
returns c = no_cycle c.args._graph.now c.args._order.now c.requires
