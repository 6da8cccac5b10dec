use Rattle.std.proofs.Common.{◌≡◌, List, [], ◌∷◌, ◌++◌, None, sym, subst, ◌∙◌}
use Rattle.mm_types.specs.declared.numbers.FeatureNo.{FeatureNo}
use Rattle.node_slots.specs.declared.slot.Slot.{Slot}
use Rattle.node_slots.specs.Slots.{AreSlotsGrown, slot_in}
use Rattle.node_slots.proofs.SlotLemmas.{is_there, present, pushed}
use Rattle.node_slots.proofs.row_slots.add_slot.Goals as goal

pub returns-then-is_some-clause-ok : goal.returns-then-is_some-clause-ok
returns-then-is_some-clause-ok c = present c.args.slots.now.items c.deref.result.now c.args.feature c.slot_index.result c.deref.ensures.value c.slot_index.ensures (sym c.is_some.ensures ∙ c.if-is_some.true)

pub returns-clause-grown : goal.returns-clause-grown
returns-clause-grown c =
    let ss = c.args.slots.now.items in
    subst (λ (xs : List Slot). AreSlotsGrown ss xs) (sym c.in_ok-push_slot.ensures) (pushed c.new.result c.new.ensures.values c.new.ensures.pairing ss)

pub returns-clause-ok : goal.returns-clause-ok
returns-clause-ok c none =
    let ss = c.args.slots.now.items in
    let gone : slot_in (ss ++ c.new.result ∷ []) c.args.feature ≡ None = subst (λ (xs : List Slot). slot_in xs c.args.feature ≡ None) c.in_ok-push_slot.ensures none in
    is_there ss c.new.result (subst (λ (f : FeatureNo). slot_in (ss ++ c.new.result ∷ []) f ≡ None) (sym c.new.ensures.feature) gone)
