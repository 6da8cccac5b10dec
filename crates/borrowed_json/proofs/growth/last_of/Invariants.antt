use Rattle.std.proofs.Common.{◌-◌, ◌≡◌, ◌≤◌, bytes_eq, drop, length, true}
use Rattle.std.specs.Prelude.{not}
use Rattle.std.specs.List.{list_all}
use Rattle.borrowed_json.proofs.growth.last_of.Given as goal

abbrev pub invariant-loop-left : goal.invariant-loop-left
invariant-loop-left l = (l.left ≤ length l.members) × (list_all (λ m. not (bytes_eq m.0.now l.key)) (drop l.left l.members) ≡ true)

abbrev pub decreases-loop-left : goal.decreases-loop-left
decreases-loop-left l = l.left - l.end
