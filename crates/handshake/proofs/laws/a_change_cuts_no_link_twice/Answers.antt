use Rattle.handshake.proofs.CutLinkEndLemmas.{cuts-different}
use Rattle.handshake.proofs.laws.a_change_cuts_no_link_twice.Goals as goal

pub returns : goal.returns
returns c = λ s change legal early late. cuts-different s change legal early
