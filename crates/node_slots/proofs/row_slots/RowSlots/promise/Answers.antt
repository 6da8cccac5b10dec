use Rattle.std.proofs.Common.{List, ◌∙◌, ap, sym}
use Rattle.node_slots.specs.declared.slot.Slot.{Slot}
use Rattle.node_slots.specs.RowSlots.{slots_of}
use Rattle.node_slots.specs.Slots.{slot_in}
use Rattle.node_slots.proofs.row_slots.RowSlots.promise.Goals as goal

pub unreachable-requires : goal.unreachable-requires
unreachable-requires c = c.requires (ap (λ (ss : List Slot). slot_in ss c.args.feature) (sym c.self.view_is ∙ ap slots_of c.in-Empty.is))
