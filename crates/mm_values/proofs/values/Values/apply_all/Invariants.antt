use Rattle.std.proofs.Common.{◌≡◌}
use Rattle.std.specs.Vec.Iter.{into_iter_items}
use Rattle.mm_values.specs.Values.{values_after_edits}
use Rattle.mm_values.specs.Room.{values_of, HasRoom}
use Rattle.mm_values.proofs.values.Values.apply_all.Given as goal

abbrev pub invariant-loop-edit : goal.invariant-loop-edit
invariant-loop-edit l =
    (goal.iterator-loop-edit).can_next l.edit-iterator ×
    (goal.iterator-loop-edit).is_finite l.edit-iterator ×
    HasRoom l.self (into_iter_items l.edit-iterator) ×
    (values_after_edits (values_of l.self) (into_iter_items l.edit-iterator) ≡ values_after_edits (values_of l.fn.self) l.fn.edits.items)
