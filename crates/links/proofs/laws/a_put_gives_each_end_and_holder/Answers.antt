use Rattle.links.proofs.PutEndLemmas.{end-put, holder-put_is}
use Rattle.links.proofs.laws.a_put_gives_each_end_and_holder.Goals as goal

pub returns : goal.returns
returns c = λ s e i o g h legal fits. record { ends = end-put s e i o g h legal fits; holders = holder-put_is s e i o g h legal fits }
