use Rattle.std.proofs.Common.{Bool, ap, arith, subst}
use Rattle.node_slots.specs.Slots.{CanEdit, mixed_of, places_of}
use Rattle.node_slots.proofs.SlotLemmas.{edited, first, missing, unedited, was}
use Rattle.node_slots.proofs.row_slots.edit_slot.Goals as goal

pub edit-requires-clause-places : goal.edit-requires-clause-places
edit-requires-clause-places c =
    let ss = c.args.slots.now.items in
    let s = c.index_mut.result.now in
    let at = first ss c.deref.result.now c.args.feature c.slot_index.result c.in-Some.index s c.deref.ensures.value c.slot_index.ensures c.in-Some.is in
    let here = ap places_of (was ss c.args.feature c.in-Some.index s s at c.index_mut.ensures.value) in
    omega (arith, here, c.requires.places)

pub edit-requires-clause-can : goal.edit-requires-clause-can
edit-requires-clause-can c =
    let ss = c.args.slots.now.items in
    let s = c.index_mut.result.now in
    let at = first ss c.deref.result.now c.args.feature c.slot_index.result c.in-Some.index s c.deref.ensures.value c.slot_index.ensures c.in-Some.is in
    subst (λ (b : Bool). CanEdit b c.args.edit) (ap mixed_of (was ss c.args.feature c.in-Some.index s s at c.index_mut.ensures.value)) c.requires.can

pub returns-in-Some : goal.returns-in-Some
returns-in-Some c =
    let ss = c.args.slots.now.items in
    let s = c.index_mut.result.now in
    let at = first ss c.deref.result.now c.args.feature c.slot_index.result c.in-Some.index s c.deref.ensures.value c.slot_index.ensures c.in-Some.is in
    edited ss c.args.feature c.in-Some.index s c.edit.new.self at c.index_mut.ensures.value c.args.edit c.edit.ensures

pub returns-in-None : goal.returns-in-None
returns-in-None c =
    let ss = c.args.slots.now.items in
    unedited ss c.args.feature c.args.edit (missing ss c.deref.result.now c.args.feature c.slot_index.result c.deref.ensures.value c.slot_index.ensures c.in-None.is) c.requires.places
