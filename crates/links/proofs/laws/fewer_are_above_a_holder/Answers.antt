use Rattle.links.proofs.AboveLemmas.{above_falls}
use Rattle.links.proofs.laws.fewer_are_above_a_holder.Goals as goal

pub returns : goal.returns
returns c = λ s legal free n e h. above_falls s legal free n e h
