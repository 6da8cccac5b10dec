use Rattle.doc_parts.proofs.KnowLemmas.{all_stays}
use Rattle.doc_parts.proofs.found.FoundParts.reserve.Goals as goal

pub returns : goal.returns
returns c = λ m ps. all_stays m c.args.self.now _ ps c.reserve.ensures.items c.reserve-2.ensures
