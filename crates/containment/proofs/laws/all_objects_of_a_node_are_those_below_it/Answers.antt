use Rattle.containment.proofs.DistinctLemmas.{node-distinct}
use Rattle.containment.proofs.MemberLemmas.{objects-below}
use Rattle.containment.proofs.laws.all_objects_of_a_node_are_those_below_it.Goals as goal

pub returns-clause-below : goal.returns-clause-below
returns-clause-below c = λ s legal n o. objects-below s legal n o

pub returns-clause-once : goal.returns-clause-once
returns-clause-once c = λ s legal n. node-distinct s legal n
