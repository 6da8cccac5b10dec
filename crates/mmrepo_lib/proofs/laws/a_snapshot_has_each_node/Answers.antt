use Rattle.mmrepo_lib.proofs.EnoughLemmas.{has-each}
use Rattle.mmrepo_lib.proofs.laws.a_snapshot_has_each_node.Goals as goal

pub returns : goal.returns
returns c = has-each
