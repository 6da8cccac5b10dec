use Rattle.mm_meta.proofs.ConformLemmas.{conforms_is}
use Rattle.mm_meta.proofs.laws.conformance.Goals as goal

pub returns : goal.returns
returns c = conforms_is
