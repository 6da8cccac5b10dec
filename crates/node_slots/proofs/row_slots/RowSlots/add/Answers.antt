use Rattle.std.proofs.Common.{List, [], ◌∷◌, ◌∙◌, ap, subst, sym}
use Rattle.node_slots.specs.declared.slot.Slot.{Slot}
use Rattle.node_slots.specs.RowSlots.{slots_of}
use Rattle.node_slots.specs.Slots.{AreSlotsGrown}
use Rattle.node_slots.proofs.SlotLemmas.{begun, own, pushed}
use Rattle.node_slots.proofs.row_slots.RowSlots.add.Goals as goal

pub returns-in-Empty-clause-grown : goal.returns-in-Empty-clause-grown
returns-in-Empty-clause-grown c =
    subst (λ (ss : List Slot). AreSlotsGrown ss (c.new.result ∷ [])) (sym (sym c.self.view_is ∙ ap slots_of c.in-Empty.is)) (pushed c.new.result c.new.ensures.values c.new.ensures.pairing [])

pub returns-in-Empty-clause-ok : goal.returns-in-Empty-clause-ok
returns-in-Empty-clause-ok c = begun c.new.result c.args.feature c.new.ensures.feature

pub returns-then-is_of-clause-ok : goal.returns-then-is_of-clause-ok
returns-then-is_of-clause-ok c = own c.in-One.slot c.args.feature (sym c.is_of.ensures ∙ c.if-is_of.true)
