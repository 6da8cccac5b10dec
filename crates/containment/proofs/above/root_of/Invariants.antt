use Rattle.std.proofs.Common.{◌≡◌, length, Some}
use Rattle.std.specs.List.{last_or}
use Rattle.links.specs.Holders.{above}
use Rattle.containment.proofs.above.root_of.Given as goal

abbrev pub invariant-loop-next : goal.invariant-loop-next
invariant-loop-next g l = last_or (Some l.top) (above (g.L.LinkStore.links l.store) l.top) ≡ last_or (Some l.fn.node) (above (g.L.LinkStore.links l.store) l.fn.node)

abbrev pub decreases-loop-next : goal.decreases-loop-next
decreases-loop-next g l = length (above (g.L.LinkStore.links l.store) l.top)
