-- The present values and the values still to be appended are the old and the new values, and each value that was appended has used up a
-- capacity of one.
use Rattle.std.proofs.Common.{◌≡◌, ◌+◌, ◌++◌, length}
use Rattle.std.specs.Vec.Iter.{into_iter_items}
use Rattle.slot_lists.proofs.pieces.Pieces.append.Given as goal

abbrev pub invariant-loop-value : goal.invariant-loop-value
invariant-loop-value g l =
    (goal.iterator-loop-value g).can_next l.value-iterator ×
    (goal.iterator-loop-value g).is_finite l.value-iterator ×
    (l.self.items ++ into_iter_items l.value-iterator ≡ l.fn.self.items ++ l.fn.values.items) ×
    (l.self.spare + length l.fn.values.items ≡ l.fn.self.spare + length (into_iter_items l.value-iterator))
