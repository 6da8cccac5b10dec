use Rattle.links.proofs.AboveLemmas.{above_is}
use Rattle.links.proofs.laws.what_is_above_follows_the_holders.Goals as goal

pub returns : goal.returns
returns c = λ s legal free n. above_is s legal free n
