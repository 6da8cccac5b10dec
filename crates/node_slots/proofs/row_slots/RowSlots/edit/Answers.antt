use Rattle.std.proofs.Common.{◌≤◌, List, [], ◌∷◌, ◌∙◌, ap, subst, sym}
use Rattle.node_slots.specs.declared.slot.Slot.{Slot}
use Rattle.node_slots.specs.RowSlots.{slots_of}
use Rattle.node_slots.specs.Slots.{AreSlotsEdited, CanEdit, mixed_of, places_of, slot_edit_capacity, slot_in}
use Rattle.node_slots.proofs.SlotLemmas.{unedited_none}
use Rattle.node_slots.specs.declared.row_slots.RowSlots.TheInside.{Inside}
use Rattle.node_slots.proofs.row_slots.RowSlots.edit.Goals as goal
use Rattle.node_slots.proofs.row_slots.RowSlots.edit.Goals.{in-Empty, in-One, in-Many}

pub edit_one-requires-clause-places : goal.edit_one-requires-clause-places
edit_one-requires-clause-places c =
    subst (λ (ss : List Slot). slot_edit_capacity c.args.edit ≤ places_of (slot_in ss c.args.feature)) (sym c.self.view_is ∙ ap slots_of c.in-One.is) c.requires.places

pub edit_one-requires-clause-can : goal.edit_one-requires-clause-can
edit_one-requires-clause-can c =
    subst (λ (ss : List Slot). CanEdit (mixed_of (slot_in ss c.args.feature)) c.args.edit) (sym c.self.view_is ∙ ap slots_of c.in-One.is) c.requires.can

pub edit_slot-requires-clause-places : goal.edit_slot-requires-clause-places
edit_slot-requires-clause-places c =
    subst (λ (ss : List Slot). slot_edit_capacity c.args.edit ≤ places_of (slot_in ss c.args.feature)) (sym c.self.view_is ∙ ap slots_of c.in-Many.is) c.requires.places

pub edit_slot-requires-clause-can : goal.edit_slot-requires-clause-can
edit_slot-requires-clause-can c =
    subst (λ (ss : List Slot). CanEdit (mixed_of (slot_in ss c.args.feature)) c.args.edit) (sym c.self.view_is ∙ ap slots_of c.in-Many.is) c.requires.can

pub returns : goal.returns
returns c =
    let before = c.args.self.now in
    let now = slots_of c.match-self.self-inside.layout in
    let edits : List Slot → List Slot → Type 0 = AreSlotsEdited c.args.feature c.args.edit in
    elim c.match-self.branch [
      | in-Empty w ↦
          let was = sym c.self.view_is ∙ ap slots_of w.in-Empty.is in
          let is = ap (λ (x : Inside). slots_of x.layout) w.self-inside-is ∙ ap slots_of w.in-Empty.is in
          let none = unedited_none c.args.feature c.args.edit (subst (λ (ss : List Slot). slot_edit_capacity c.args.edit ≤ places_of (slot_in ss c.args.feature)) was c.requires.places) in
          subst (λ (ss : List Slot). edits before ss) (sym is) (subst (λ (ss : List Slot). edits ss []) (sym was) none)
      | in-One w ↦
          let was = sym c.self.view_is ∙ ap slots_of w.in-One.is in
          let is = ap (λ (x : Inside). slots_of x.layout) w.self-inside-is in
          subst (λ (ss : List Slot). edits before ss) (sym is) (subst (λ (ss : List Slot). edits ss (w.edit_one.new.slot ∷ [])) (sym was) w.edit_one.ensures)
      | in-Many w ↦
          let was = sym c.self.view_is ∙ ap slots_of w.in-Many.is in
          let is = ap (λ (x : Inside). slots_of x.layout) w.self-inside-is in
          subst (λ (ss : List Slot). edits before ss) (sym is) (subst (λ (ss : List Slot). edits ss w.edit_slot.new.slots.items) (sym was) w.edit_slot.ensures)
    ]
