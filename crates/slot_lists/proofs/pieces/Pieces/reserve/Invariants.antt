-- The values stay, and the capacity is never less.
use Rattle.std.proofs.Common.{◌≡◌, ◌-◌, ◌≤◌}
use Rattle.slot_lists.proofs.pieces.Pieces.reserve.Given as goal

abbrev pub invariant-loop-self : goal.invariant-loop-self
invariant-loop-self g l = (l.self.items ≡ l.fn.self.items) × (l.fn.self.spare ≤ l.self.spare)

abbrev pub decreases-loop-self : goal.decreases-loop-self
decreases-loop-self g l = l.additional - l.self.spare
