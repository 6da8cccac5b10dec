use Rattle.std.proofs.Common.{◌≡◌, length}
use Rattle.std.specs.List.{list_any}
use Rattle.mm_types.specs.Same.{same_node}
use Rattle.links.specs.Holders.{above}
use Rattle.containment.proofs.above.is_under.Given as goal

abbrev pub invariant-loop-next : goal.invariant-loop-next
invariant-loop-next g l = list_any (same_node l.above) (above (g.L.LinkStore.links l.store) l.at) ≡ list_any (same_node l.above) (above (g.L.LinkStore.links l.store) l.fn.node)

abbrev pub decreases-loop-next : goal.decreases-loop-next
decreases-loop-next g l = length (above (g.L.LinkStore.links l.store) l.at)
