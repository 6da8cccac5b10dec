use Rattle.round_trip.proofs.DocumentLemmas.{parts-saved}
use Rattle.round_trip.proofs.laws.the_parts_of_a_saved_document_are_its_objects.Goals as goal

pub returns : goal.returns
returns c = λ s legal k. parts-saved s legal k
