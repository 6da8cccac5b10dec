use Rattle.links.proofs.AcyclicLemmas.{IsForest_no_cycle}
use Rattle.links.proofs.laws.chains_of_holders_end.Goals as goal

pub returns : goal.returns
returns c = λ s legal free. IsForest_no_cycle s legal.held free
