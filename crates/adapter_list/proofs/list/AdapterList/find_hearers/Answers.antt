use Rattle.std.proofs.Common.{rules}
use Rattle.links.specs.Holders.{above}
use Rattle.adapter_list.proofs.PlaceLemmas.{known-same}
use Rattle.adapter_list.proofs.list.AdapterList.find_hearers.Goals as goal

pub returns-then-eq-clause-found : goal.returns-then-eq-clause-found
returns-then-eq-clause-found g c =
    known-same (above (g.L.LinkStore.links c.args.store.now)) c.args.self.now.0 c.args.found.now.node c.in-Some.last c.args.node c.args.found.now.ordinals.items c.requires.known c.in-Some.is (search rules)
