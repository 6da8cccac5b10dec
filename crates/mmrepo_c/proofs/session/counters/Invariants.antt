use Rattle.std.proofs.Common.{◌≡◌, ◌-◌, ◌≤◌, Some, map, replicate, vec_capacity, vec_len}
use Rattle.adapters.specs.contracts.counter.CounterAdapter.TheImpl.{ghosts}
use Rattle.mmrepo_c.specs.Sessions.{new_view}
use Rattle.mmrepo_c.proofs.session.counters.Given as goal

abbrev pub invariant-boxes : goal.invariant-boxes
invariant-boxes l =
    (map (λ c. Some (ghosts.heard c)) l.boxes.items ≡ replicate (vec_len l.boxes) (Some new_view)) × (vec_len l.boxes ≤ 1000) × (1000 ≤ vec_capacity l.boxes)

abbrev pub decreases-boxes : goal.decreases-boxes
decreases-boxes l = 1000 - vec_len l.boxes
