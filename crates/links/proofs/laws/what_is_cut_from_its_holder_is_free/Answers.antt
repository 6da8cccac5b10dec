use Rattle.links.proofs.CutNamedLemmas.{cut_free}
use Rattle.links.proofs.laws.what_is_cut_from_its_holder_is_free.Goals as goal

pub returns : goal.returns
returns c = λ s n e legal h. cut_free s legal n e h
