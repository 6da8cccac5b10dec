use Rattle.links.proofs.TouchLemmas.{plan-leaves}
use Rattle.links.proofs.laws.a_plan_of_other_links_leaves_what_contains.Goals as goal

pub returns : goal.returns
returns c = λ m ok s plan legal kinds fits kind out d holds. plan-leaves m ok s plan legal kinds fits kind out d holds
