use Rattle.mm_graph.proofs.Inheriting.{all_features_is}
use Rattle.mm_graph.proofs.laws.all_features_from_supers.Goals as goal

pub returns : goal.returns
returns c = all_features_is c.args._graph.now c.args._own.now c.args._order.now c.requires
