use Rattle.links.proofs.AboveLemmas.{resource_top}
use Rattle.links.proofs.laws.a_resource_has_no_holder.Goals as goal

pub returns : goal.returns
returns c = λ s r legal. resource_top s r legal
