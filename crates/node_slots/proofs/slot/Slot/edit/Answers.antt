use Rattle.std.proofs.Common.{subst}
use Rattle.node_slots.specs.declared.slot.SlotEdit.{SlotEdit}
use Rattle.node_slots.specs.Slots.{CanEdit}
use Rattle.node_slots.proofs.slot.Slot.edit.Goals as goal

pub insert_in-requires-clause-can : goal.insert_in-requires-clause-can
insert_in-requires-clause-can c = subst (λ (x : SlotEdit). CanEdit c.args.self.now.values.mixed x) c.in-Insert.is c.requires.can

pub push_in-requires-clause-can : goal.push_in-requires-clause-can
push_in-requires-clause-can c = subst (λ (x : SlotEdit). CanEdit c.args.self.now.values.mixed x) c.in-Push.is c.requires.can
