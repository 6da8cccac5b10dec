use Rattle.fragment_paths.proofs.AddressLemmas.{object-found}
use Rattle.fragment_paths.proofs.laws.an_object_is_found_where_it_stands.Goals as goal

pub returns : goal.returns
returns c = λ s legal o k inside. object-found s legal o k inside
