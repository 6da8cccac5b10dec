use Rattle.handshake.proofs.LoadedLemmas.{loads-ends}
use Rattle.reloading.proofs.AddressLemmas.{address-kept}
use Rattle.reloading.proofs.ResolvedLemmas.{addresses-kept}
use Rattle.reloading.proofs.laws.resolves_and_loads_keep_addresses.Goals as goal

pub returns-clause-resolves : goal.returns-clause-resolves
returns-clause-resolves c = λ s o f i legal early late. addresses-kept s legal o f i early late

pub returns-clause-loads : goal.returns-clause-loads
returns-clause-loads c = λ s k doc legal early late read. address-kept s k doc legal early late read (loads-ends s k doc legal early late read)
