use Rattle.std.proofs.Common.{Bool, [], ◌∷◌, ◌∙◌, ap, arith, refl, subst, sym}
use Rattle.node_slots.specs.Slots.{CanEdit, mixed_of, places_of}
use Rattle.node_slots.proofs.SlotLemmas.{alone, edited, other, unedited, was}
use Rattle.node_slots.proofs.row_slots.edit_one.Goals as goal

pub edit-requires-clause-places : goal.edit-requires-clause-places
edit-requires-clause-places c =
    let s = c.args.slot.now in
    let at = alone s c.args.feature (sym c.is_of.ensures ∙ c.if-is_of.true) in
    let here = ap places_of (was (s ∷ []) c.args.feature 0 s s at refl) in
    omega (arith, here, c.requires.places)

pub edit-requires-clause-can : goal.edit-requires-clause-can
edit-requires-clause-can c =
    let s = c.args.slot.now in
    let at = alone s c.args.feature (sym c.is_of.ensures ∙ c.if-is_of.true) in
    subst (λ (b : Bool). CanEdit b c.args.edit) (ap mixed_of (was (s ∷ []) c.args.feature 0 s s at refl)) c.requires.can

pub returns-then-is_of : goal.returns-then-is_of
returns-then-is_of c =
    let s = c.args.slot.now in
    let at = alone s c.args.feature (sym c.is_of.ensures ∙ c.if-is_of.true) in
    edited (s ∷ []) c.args.feature 0 s c.edit.new.self at refl c.args.edit c.edit.ensures

pub returns-else-is_of : goal.returns-else-is_of
returns-else-is_of c =
    let s = c.args.slot.now in
    unedited (s ∷ []) c.args.feature c.args.edit (other s c.args.feature (sym c.is_of.ensures ∙ c.if-is_of.false)) c.requires.places
