use Rattle.containment.proofs.DistinctLemmas.{contents-distinct, subtree-distinct}
use Rattle.containment.proofs.laws.a_subtree_repeats_nothing.Goals as goal

pub returns-clause-contents : goal.returns-clause-contents
returns-clause-contents c = λ s legal n. contents-distinct s legal n

pub returns-clause-subtree : goal.returns-clause-subtree
returns-clause-subtree c = λ s legal o. subtree-distinct s legal o
