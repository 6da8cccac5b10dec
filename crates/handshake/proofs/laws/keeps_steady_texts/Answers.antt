use Rattle.handshake.proofs.ProxyLemmas.{change-keeps-steady}
use Rattle.handshake.proofs.laws.keeps_steady_texts.Goals as goal

pub returns : goal.returns
returns c = change-keeps-steady
