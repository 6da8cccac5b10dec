use Rattle.handshake.proofs.AllLemmas.{chain-replays}
use Rattle.handshake.proofs.laws.the_chain_of_a_change_replays_it.Goals as goal

pub returns : goal.returns
returns c = chain-replays
