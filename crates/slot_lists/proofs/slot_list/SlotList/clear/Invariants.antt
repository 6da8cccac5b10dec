-- No capacity is lost.
use Rattle.std.proofs.Common.{◌≤◌, length}
use Rattle.slot_lists.proofs.slot_list.SlotList.clear.Given as goal

abbrev pub invariant-loop-last : goal.invariant-loop-last
invariant-loop-last g l = l.fn.self.spare ≤ l.self.spare

abbrev pub decreases-loop-last : goal.decreases-loop-last
decreases-loop-last g l = length l.self.items
