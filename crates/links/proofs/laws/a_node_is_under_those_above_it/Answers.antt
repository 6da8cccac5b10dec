use Rattle.links.proofs.AboveLemmas.{above_under, not_above_itself}
use Rattle.links.proofs.laws.a_node_is_under_those_above_it.Goals as goal

pub returns-clause-under : goal.returns-clause-under
returns-clause-under c = λ s legal free x y. above_under s legal free x y

pub returns-clause-itself : goal.returns-clause-itself
returns-clause-itself c = λ s legal free x. not_above_itself s legal free x
