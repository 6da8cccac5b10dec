use Rattle.std.proofs.Common.{◌≡◌, ◌||◌, true, ℕ, length}
use Rattle.std.specs.BTreeSet.{contains}
use Rattle.std.specs.List.{list_any}
use Rattle.std.specs.Ordering.{nat_cmp}
use Rattle.links.specs.Holders.{above}
use Rattle.adapter_list.specs.Targets.{is_attached_at}
use Rattle.adapter_list.proofs.list.AdapterList.add_above.Given as goal

-- the adapters that were found, and then those above the last node that was looked at
abbrev pub invariant-loop-next : goal.invariant-loop-next
invariant-loop-next g l = (k : ℕ) → (contains nat_cmp l.ordinals k || list_any (λ x. is_attached_at l.self.0 x true k) (above (g.L.LinkStore.links l.store) l.at)) ≡ (contains nat_cmp l.fn.ordinals k || list_any (λ x. is_attached_at l.self.0 x true k) (above (g.L.LinkStore.links l.store) l.fn.node))

abbrev pub decreases-loop-next : goal.decreases-loop-next
decreases-loop-next g l = length (above (g.L.LinkStore.links l.store) l.at)
