use Rattle.mm_values.proofs.RoomLemmas.{room_first}
use Rattle.mm_values.proofs.values.Values.apply_all.Goals as goal

pub apply_edit-requires : goal.apply_edit-requires
apply_edit-requires c = room_first c.loop-edit.self c.in-Some.edit _ (rw c.in-Some.ensures.steps.0 at c.loop-edit.invariant.2)
