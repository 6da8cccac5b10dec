use Rattle.handshake.proofs.EachLemmas.{resolves-each}
use Rattle.handshake.proofs.laws.all_proxies_are_resolved_one_after_another.Goals as goal

pub returns : goal.returns
returns c = resolves-each
