use Rattle.std.proofs.Common.{◌≡◌, true, length}
use Rattle.std.specs.List.{list_any}
use Rattle.links.specs.Holders.{above}
use Rattle.adapter_list.specs.Targets.{is_attached}
use Rattle.adapter_list.proofs.list.AdapterList.has_deep_above.Given as goal

-- the nodes above the last node that was looked at
abbrev pub invariant-loop-next : goal.invariant-loop-next
invariant-loop-next g l = list_any (λ x. list_any (is_attached x true) l.self.0) (above (g.L.LinkStore.links l.store) l.at) ≡ list_any (λ x. list_any (is_attached x true) l.fn.self.0) (above (g.L.LinkStore.links l.store) l.fn.node)

abbrev pub decreases-loop-next : goal.decreases-loop-next
decreases-loop-next g l = length (above (g.L.LinkStore.links l.store) l.at)
