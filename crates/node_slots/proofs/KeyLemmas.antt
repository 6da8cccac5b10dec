-- Which ends have a slot, and which nodes have a row.
use Rattle.std.proofs.Common.{◌≡◌, ℕ, zero, suc, ◌+◌, ◌≤◌, true, false, eqb, List, [], ◌∷◌, ◌++◌, Option, Some, None, if◌then◌else◌, refl, sym, ap, ◌∙◌, subst, arith}
use Rattle.std.specs.List.{list_any, slice_get}
use Rattle.std.proofs.lemmas.Bool.{eqb-true, or_left, or_right}
use Rattle.std.proofs.lemmas.Option.{none-some}
use Rattle.std.proofs.lemmas.List.Folds.{list_any-append}
use Rattle.mm_types.specs.Same.{same_end}
use Rattle.mm_types.specs.declared.numbers.FeatureNo.{FeatureNo}
use Rattle.mm_types.specs.declared.numbers.Node.{Node}
use Rattle.mm_types.specs.declared.numbers.Node.TheVariants as node
use Rattle.mm_types.specs.declared.end.End.{End}
use Rattle.mm_types.specs.declared.value.Value.{Value}
use Rattle.mm_types.proofs.SameLemmas.{same_end-self}
use Rattle.node_slots.specs.declared.slot.Slot.{Slot}
use Rattle.node_slots.specs.declared.row.Row.{Row}
use Rattle.node_slots.specs.declared.node_slots.NodeSlots.{NodeSlots}
use Rattle.node_slots.specs.Slots.{slot_in, values_of}
use Rattle.node_slots.specs.Rows.{is_row, row_entered, row_entries, row_hold, row_pairing, row_indexes, row_slots, row_vals}
use Rattle.node_slots.specs.Tables.{place_at, row_index_at, row_from}
use Rattle.node_slots.specs.Cells.{HasKeys, cells, ends_of, no_cells, object_of, resource_of, room, row_at, row_ends, slot_ends, table_ends}

---------------------------------------------------------------- no rows

none_at : (t : NodeSlots) → t.objects.places ≡ [] → t.resources.places ≡ [] → (n : Node) → row_at t n ≡ None
none_at t a b (node.Object o) = ap (λ (ps : List ℕ). row_from t.objects.rows (row_index_at ps o.0)) a
none_at t a b (node.Resource r) = ap (λ (ps : List ℕ). row_from t.resources.rows (row_index_at ps r.0)) b

pub none_cells : (t : NodeSlots) → t.objects.places ≡ [] → t.resources.places ≡ [] → cells t ≡ no_cells
unfolding cells
none_cells t a b = λ i.
    record {
      vals = λ e. ap (λ (o : Option Row). row_vals o e.feature) (none_at t a b e.node) i;
      pairing = λ e. ap (λ (o : Option Row). row_pairing o e.feature) (none_at t a b e.node) i;
      hold = λ n. ap row_hold (none_at t a b n) i;
      entered = λ n. ap row_entered (none_at t a b n) i;
    }

pub none_ends : (t : NodeSlots) → t.objects.places ≡ [] → t.resources.places ≡ [] → ends_of t ≡ []
unfolding ends_of
none_ends t a b = λ i. row_ends object_of 0 t.objects.rows (a i) ++ row_ends resource_of 0 t.resources.rows (b i)

---------------------------------------------------------------- keys

slot_keys : (n : Node) (ss : List Slot) (f : FeatureNo) (e : End) (k : ℕ) (v : Value) → e ≡ record { node = n; feature = f } → slice_get (values_of (slot_in ss f)) k ≡ Some v → list_any (same_end e) (slot_ends n ss) ≡ true
slot_keys n [] f e k v is h = absurd (none-some v h)
slot_keys n (s ∷ ss) f e k v is h =
    elim (eqb s.feature.0 f.0) as (λ b. eqb s.feature.0 f.0 ≡ b → slice_get (values_of (if b then Some s else slot_in ss f)) k ≡ Some v → list_any (same_end e) (slot_ends n (s ∷ ss)) ≡ true) [
      | true ↦ λ q h. or_left _ _ (subst (λ (x : End). same_end e x ≡ true) (is ∙ λ i. record { node = n; feature = record { 0 = sym (eqb-true s.feature.0 f.0 q) i } }) (same_end-self e))
      | false ↦ λ q h. or_right _ _ (slot_keys n ss f e k v is h)
    ] refl h

row_keys : (at : ℕ → Node) (a : ℕ) (rs : List Row) (ps : List ℕ) (i : ℕ) (f : FeatureNo) (e : End) (k : ℕ) (v : Value) → e ≡ record { node = at (a + i); feature = f } → slice_get (row_vals (row_from rs (row_index_at ps i)) f) k ≡ Some v → list_any (same_end e) (row_ends at a rs ps) ≡ true
row_keys at a rs [] i f e k v is h = absurd (none-some v h)
row_keys at a rs (p ∷ ps) zero f e k v is h =
    let here = row_slots (row_from rs (place_at (Some p))) in
    let same : a + 0 ≡ a = omega arith in
    list_any-append (same_end e) (slot_ends (at a) here) (row_ends at (suc a) rs ps)
    ∙ or_left _ _ (slot_keys (at a) here f e k v (is ∙ λ j. record { node = at (same j); feature = f }) h)
row_keys at a rs (p ∷ ps) (suc i) f e k v is h =
    let here = row_slots (row_from rs (place_at (Some p))) in
    let same : a + suc i ≡ suc a + i = omega arith in
    list_any-append (same_end e) (slot_ends (at a) here) (row_ends at (suc a) rs ps)
    ∙ or_right _ _ (row_keys at (suc a) rs ps i f e k v (is ∙ λ j. record { node = at (same j); feature = f }) h)

-- each end with a value has a slot
pub keys_of : (t : NodeSlots) → HasKeys (cells t) (ends_of t)
unfolding cells ends_of
keys_of t e k v h = at_node e.node refl h
  where
    plus : (k : ℕ) → k ≡ 0 + k
    plus k = omega arith

    at_node : (n : Node) → e.node ≡ n → slice_get (row_vals (row_at t n) e.feature) k ≡ Some v → list_any (same_end e) (table_ends object_of t.objects ++ table_ends resource_of t.resources) ≡ true
    at_node (node.Object o) is h =
        list_any-append (same_end e) (table_ends object_of t.objects) (table_ends resource_of t.resources)
        ∙ or_left _ _ (row_keys object_of 0 t.objects.rows t.objects.places o.0 e.feature e k v (λ j. record { node = (is ∙ ap object_of (plus o.0)) j; feature = e.feature }) h)
    at_node (node.Resource r) is h =
        list_any-append (same_end e) (table_ends object_of t.objects) (table_ends resource_of t.resources)
        ∙ or_right _ _ (row_keys resource_of 0 t.resources.rows t.resources.places r.0 e.feature e k v (λ j. record { node = (is ∙ ap resource_of (plus r.0)) j; feature = e.feature }) h)

---------------------------------------------------------------- known nodes

-- a node with capacity for a value has a row
pub known_places : (t : NodeSlots) (e : End) → 1 ≤ (room t).places e → (room t).rows e.node ≡ true
unfolding room
known_places t e h = elim (row_at t e.node) as (λ o. 1 ≤ row_indexes o e.feature → is_row o ≡ true) [ None ↦ λ h. absurd (omega (arith, h)) | Some r ↦ λ h. refl ] h

-- a node with capacity for an end that has it has a row too
pub known_entries : (t : NodeSlots) (n : Node) → 1 ≤ (room t).entries n → (room t).rows n ≡ true
unfolding room
known_entries t n h = elim (row_at t n) as (λ o. 1 ≤ row_entries o → is_row o ≡ true) [ None ↦ λ h. absurd (omega (arith, h)) | Some r ↦ λ h. refl ] h
