use Rattle.mmrepo_lib.proofs.EnoughLemmas.{chain-replays-ends}
use Rattle.mmrepo_lib.proofs.laws.the_notices_of_a_command_replay_it.Goals as goal

pub returns : goal.returns
returns c = chain-replays-ends
