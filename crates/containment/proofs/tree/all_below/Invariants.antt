use Rattle.std.proofs.Common.{◌≡◌, length, ◌++◌}
use Rattle.containment.proofs.TreeLemmas.{waiting-trees}
use Rattle.containment.proofs.tree.all_below.Given as goal

-- the objects that were found, and then the subtrees of the waiting objects
abbrev pub invariant-loop-next : goal.invariant-loop-next
invariant-loop-next g l = l.found.items ++ waiting-trees l.model l.waiting.items ≡ waiting-trees l.model l.fn.waiting.items

-- how many objects are left to find
abbrev pub decreases-loop-next : goal.decreases-loop-next
decreases-loop-next g l = length (waiting-trees l.model l.waiting.items)
