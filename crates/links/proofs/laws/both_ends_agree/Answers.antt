use Rattle.links.proofs.SideLemmas.{both_ends_agree}
use Rattle.links.proofs.laws.both_ends_agree.Goals as goal

pub returns : goal.returns
returns c = λ m s legal kinds x y o h. both_ends_agree m s legal kinds x y o h
