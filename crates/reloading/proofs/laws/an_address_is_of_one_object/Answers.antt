use Rattle.reloading.proofs.AddressLemmas.{own-addresses}
use Rattle.reloading.proofs.laws.an_address_is_of_one_object.Goals as goal

pub returns : goal.returns
returns c = own-addresses
