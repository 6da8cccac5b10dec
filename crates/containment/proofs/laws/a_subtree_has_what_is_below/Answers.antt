use Rattle.containment.proofs.MemberLemmas.{subtree-has}
use Rattle.containment.proofs.laws.a_subtree_has_what_is_below.Goals as goal

pub returns : goal.returns
returns c = λ s legal o n. subtree-has s legal o n
