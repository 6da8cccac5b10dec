use Rattle.handshake.proofs.AllLemmas.{change-keeps-legal}
use Rattle.handshake.proofs.laws.keeps_legal.Goals as goal

pub returns : goal.returns
returns c = change-keeps-legal
