use Rattle.handshake.proofs.LoadedLemmas.{loads-ends}
use Rattle.handshake.proofs.laws.a_load_reads_as_its_document.Goals as goal

pub returns : goal.returns
returns c = loads-ends
