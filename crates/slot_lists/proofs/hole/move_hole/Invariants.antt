-- The values stay in their order, and the free slot is where `hole` says.
use Rattle.std.proofs.Common.{◌-◌, ◌≤◌}
use Rattle.slot_lists.proofs.HoleLemmas.{HoleAt}
use Rattle.slot_lists.proofs.hole.move_hole.Given as goal

abbrev pub invariant-loop-hole : goal.invariant-loop-hole
invariant-loop-hole g l = HoleAt l.len l.hole l.fn.pieces.items l.pieces.items

abbrev pub decreases-loop-hole : goal.decreases-loop-hole
decreases-loop-hole g l = l.to - l.hole

abbrev pub invariant-loop-hole-2 : goal.invariant-loop-hole-2
invariant-loop-hole-2 g l = HoleAt l.len l.hole l.fn.pieces.items l.pieces.items × (l.to ≤ l.hole)

abbrev pub decreases-loop-hole-2 : goal.decreases-loop-hole-2
decreases-loop-hole-2 g l = l.hole - l.to
