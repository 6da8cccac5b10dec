-- A row after a change of a feature, and a change of a node without a row.
use Rattle.std.proofs.Common.{◌≡◌, zero, ◌+◌, ◌≤◌, true, false, eqb, List, [], Option, Some, None, if◌then◌else◌, refl, sym, ap, ◌∙◌, subst, arith}
use Rattle.std.proofs.lemmas.Bool.{eqb-true, eq-eqb, false≢true}
use Rattle.std.specs.Prelude.{IsPermutation}
use Rattle.std.proofs.lemmas.List.Sorted.{IsPermutation-refl}
use Rattle.slot_lists.specs.Places.{Places}
use Rattle.slot_lists.proofs.MoveLemmas.{remove_nothing}
use Rattle.mm_types.specs.declared.end.End.{End}
use Rattle.mm_types.specs.Same.{same_feature}
use Rattle.mm_types.specs.declared.numbers.FeatureNo.{FeatureNo}
use Rattle.node_slots.specs.declared.slot.Slot.{Slot}
use Rattle.node_slots.specs.declared.slot.SlotEdit.{SlotEdit}
use Rattle.node_slots.specs.declared.row.Row.{Row}
use Rattle.node_slots.specs.declared.row.RowEdit.{RowEdit}
use Rattle.node_slots.specs.declared.row.RowEdit.TheVariants.{Change, Hold, Enter, Leave, ForgetEntries}
use Rattle.node_slots.specs.Slots.{AreSlotsEdited, mixed_of, no_pairing, pairing_after, pairing_of, places_of, slot_edit_capacity, slot_in, values_after, values_of}
use Rattle.node_slots.specs.Rows.{IsRowEdited, IsRowGrown, IsRowReordered, RowFits, row_entered, entered_after, hold_after, told_after, vals_after}
use Rattle.node_slots.proofs.SlotLemmas.{nothing_after, nothing_told, same_slot}

module _ (f : FeatureNo) (x : SlotEdit) (old new : List Slot) (h : AreSlotsEdited f x old new) where
  -- reads of features change only at f
  read_if : {X : Type 0} (P : Option Slot → X) (Q : X → X) → P (slot_in new f) ≡ Q (P (slot_in old f)) → (g : FeatureNo) → P (slot_in new g) ≡ (if same_feature f g then Q (P (slot_in old g)) else P (slot_in old g))
  read_if P Q law g = elim (eqb f.0 g.0) as (λ b. eqb f.0 g.0 ≡ b → P (slot_in new g) ≡ (if b then Q (P (slot_in old g)) else P (slot_in old g))) [
    | true ↦ λ q. rw (same_slot new f g (eqb-true f.0 g.0 q), same_slot old f g (eqb-true f.0 g.0 q)) law
    | false ↦ λ q. ap P (h.others g (λ e. false≢true (sym q ∙ eq-eqb f.0 g.0 e)))
  ] refl

  places_if : (g : FeatureNo) → places_of (slot_in old g) ≤ places_of (slot_in new g) + (if same_feature f g then slot_edit_capacity x else zero)
  places_if g = elim (eqb f.0 g.0) as (λ b. eqb f.0 g.0 ≡ b → places_of (slot_in old g) ≤ places_of (slot_in new g) + (if b then slot_edit_capacity x else zero)) [
    | true ↦ λ q. let e = same_slot new f g (eqb-true f.0 g.0 q) in let d = same_slot old f g (eqb-true f.0 g.0 q) in rw (e, d) h.here.places
    | false ↦ λ q. let e = ap places_of (h.others g (λ e. false≢true (sym q ∙ eq-eqb f.0 g.0 e))) in omega (arith, e)
  ] refl

  mixed_same : (g : FeatureNo) → mixed_of (slot_in new g) ≡ mixed_of (slot_in old g)
  mixed_same g = elim (eqb f.0 g.0) as (λ b. eqb f.0 g.0 ≡ b → mixed_of (slot_in new g) ≡ mixed_of (slot_in old g)) [
    | true ↦ λ q. rw (same_slot new f g (eqb-true f.0 g.0 q), same_slot old f g (eqb-true f.0 g.0 q)) h.here.mixed
    | false ↦ λ q. ap mixed_of (h.others g (λ e. false≢true (sym q ∙ eq-eqb f.0 g.0 e)))
  ] refl

pub changed : (f : FeatureNo) (x : SlotEdit) (r s : Row) (e : RowEdit) → AreSlotsEdited f x r.slots s.slots → e ≡ Change f x → s.holder ≡ r.holder → s.entered ≡ r.entered → s.promised ≡ r.promised → IsRowEdited e (Some r) (Some s)
changed f x r s e h is holder entered promised =
    let entries = ap (λ (ds : Places End). ds.spare) entered in
    subst (λ (y : RowEdit). IsRowEdited y (Some r) (Some s)) (sym is) (record {
      vals = read_if f x r.slots s.slots h values_of (values_after x) h.here.values;
      pairing = read_if f x r.slots s.slots h pairing_of (pairing_after x) h.here.pairing;
      hold = holder;
      entered = ap (λ (ds : Places End). ds.items) entered;
      places = places_if f x r.slots s.slots h;
      mixed = mixed_same f x r.slots s.slots h;
      entries = omega (arith, entries, promised);
      kept = refl;
    })

-- if there is no row, a change that adds nothing makes no row
unmade : (x : RowEdit) → ((g : FeatureNo) → [] ≡ vals_after x g []) → ((g : FeatureNo) → no_pairing ≡ told_after x g no_pairing) → None ≡ hold_after x None → [] ≡ entered_after x [] → IsRowEdited x None None
unmade x vals pairing hold entered = record {
  vals = vals;
  pairing = pairing;
  hold = hold;
  entered = entered;
  places = λ g. omega arith;
  mixed = λ g. refl;
  entries = omega arith;
  kept = refl;
}

pub unedited_row : (x : RowEdit) (o : Option Row) → o ≡ None → RowFits x o → IsRowEdited x o o
unedited_row (Change f y) None is fits =
    unmade (Change f y) (λ g. elim (eqb f.0 g.0) as (λ b. [] ≡ (if b then values_after y [] else [])) [ true ↦ nothing_after y fits.0 | false ↦ refl ])
    (λ g. elim (eqb f.0 g.0) as (λ b. no_pairing ≡ (if b then pairing_after y no_pairing else no_pairing)) [ true ↦ nothing_told y fits.0 | false ↦ refl ]) refl refl
unedited_row (Hold (Some h)) None is fits = absurd (false≢true fits)
unedited_row (Hold None) None is fits = unmade (Hold None) (λ g. refl) (λ g. refl) refl refl
unedited_row (Enter d) None is fits = absurd (omega (arith, fits))
unedited_row (Leave i) None is fits = unmade (Leave i) (λ g. refl) (λ g. refl) refl (sym (remove_nothing i))
unedited_row (ForgetEntries n) None is fits = unmade (ForgetEntries n) (λ g. refl) (λ g. refl) refl refl
unedited_row x (Some r) is fits = cc

---------------------------------------------------------------- growth

pub row_same : (o : Option Row) → IsRowGrown o o
row_same o = record {
  vals = λ g. refl;
  pairing = λ g. refl;
  hold = refl;
  entered = refl;
  places = λ g. omega arith;
  mixed = λ g h. h;
  entries = omega arith;
}

pub row_reordered : (r s : Row) → s.slots ≡ r.slots → s.holder ≡ r.holder → s.promised ≡ r.promised → IsPermutation r.entered.items s.entered.items → s.entered.spare ≡ r.entered.spare → IsRowReordered (Some r) (Some s)
row_reordered r s slots holder promised entered spare = record {
  vals = λ g. ap (λ (ss : List Slot). values_of (slot_in ss g)) slots;
  pairing = λ g. ap (λ (ss : List Slot). pairing_of (slot_in ss g)) slots;
  hold = holder;
  entered = entered;
  places = λ g. ap (λ (ss : List Slot). places_of (slot_in ss g)) slots;
  mixed = λ g. ap (λ (ss : List Slot). mixed_of (slot_in ss g)) slots;
  entries = omega (arith, promised, spare);
  kept = refl;
}

pub row_unmoved : (o : Option Row) → IsRowReordered o o
row_unmoved o = record {
  vals = λ g. refl;
  pairing = λ g. refl;
  hold = refl;
  entered = IsPermutation-refl (row_entered o);
  places = λ g. refl;
  mixed = λ g. refl;
  entries = refl;
  kept = refl;
}

-- an empty row may be added for a node without a row
pub row_made : (r : Row) → r.slots ≡ [] → r.holder ≡ None → r.entered.items ≡ [] → IsRowGrown None (Some r)
row_made r slots holder entered = record {
  vals = λ g. ap (λ (ss : List Slot). values_of (slot_in ss g)) slots;
  pairing = λ g. ap (λ (ss : List Slot). pairing_of (slot_in ss g)) slots;
  hold = holder;
  entered = entered;
  places = λ g. omega arith;
  mixed = λ g h. absurd (false≢true h);
  entries = omega arith;
}
