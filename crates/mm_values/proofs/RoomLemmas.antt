-- Capacity for a plan, edit by edit.
use Rattle.std.proofs.Common.{◌≡◌, ℕ, ◌+◌, ◌-◌, ◌≤◌, Bool, true, false, ◌||◌, List, [], ◌∷◌, cond, inl, inr, refl, arith, eq-eqb, ◌&&◌, Option, Some, None, eqb, eqb-true, subst}
use Rattle.std.proofs.lemmas.Bool.{and_parts, or_parts}
use Rattle.std.specs.List.{list_any, sum_by}
use Rattle.std.proofs.lemmas.List.Sums.{sum_by-cons}
use Rattle.std.proofs.lemmas.List.Elements.{All-cons, All-nil, All-head, All-tail, All-weaker}
use Rattle.mm_types.specs.declared.numbers.FeatureNo.{FeatureNo}
use Rattle.mm_types.specs.declared.numbers.ObjectNo.{ObjectNo}
use Rattle.mm_types.specs.declared.value.Value.{Value}
use Rattle.mm_values.specs.declared.value_edit.ValueEdit.{ValueEdit}
use Rattle.mm_values.specs.declared.value_edit.ValueEdit.TheVariants.{NewObject, DropObject, PutList, InsertValue, RemoveValue, MoveValue, NewUri}
use Rattle.mm_values.specs.declared.values.Values.{Values}
use Rattle.mm_values.specs.Slots.{Slots, HasPlaceAt, KeepsPlaces}
use Rattle.mm_values.specs.Room.{HasRoom, HasPlaceFor, HasPlacesIn, inserted_in, is_insert, is_insert_at, is_insert_in, is_new_object, is_new_uri, capacity_needed, places_taken}
use Rattle.mm_values.proofs.Place.{fewer}

-- capacity for many is capacity for fewer
pub fewer_at : (r : Slots) (o f n m : ℕ) → m ≤ n → HasPlaceAt r o f n → HasPlaceAt r o f m
fewer_at r o f n m le has d lt = elim (has d lt) [
  | inl dead ↦ inl dead
  | inr index ↦ inr (fewer _ f n m le index)
]

-- the edits after the first need the capacity that all edits need, minus the capacity that the first uses
needed_counts : (o f : ℕ) (e : ValueEdit) (es : List ValueEdit) (here behind : Bool) → cond behind (sum_by (λ x. places_taken x o f) es) 0 ≤ cond (here || behind) (sum_by (λ x. places_taken x o f) (e ∷ es)) 0 - places_taken e o f
needed_counts o f e es true true = let sum = sum_by-cons (λ x. places_taken x o f) e es in omega (arith, sum)
needed_counts o f e es false true = let sum = sum_by-cons (λ x. places_taken x o f) e es in omega (arith, sum)
needed_counts o f e es here false = omega arith

pub needed_behind : (o f : ℕ) (e : ValueEdit) (es : List ValueEdit) → capacity_needed es o f ≤ capacity_needed (e ∷ es) o f - places_taken e o f
needed_behind o f e es = needed_counts o f e es (is_insert_at o f e) (list_any (is_insert_at o f) es)

-- the first edit needs no more than all edits
first_counts : (o f : ℕ) (e : ValueEdit) (es : List ValueEdit) (here behind : Bool) → cond (here || false) (sum_by (λ x. places_taken x o f) (e ∷ [])) 0 ≤ cond (here || behind) (sum_by (λ x. places_taken x o f) (e ∷ es)) 0
first_counts o f e es true behind =
    let one = sum_by-cons (λ x. places_taken x o f) e [] in
    let sum = sum_by-cons (λ x. places_taken x o f) e es in
    omega (arith, one, sum)
first_counts o f e es false behind = omega arith

needed_first : (o f : ℕ) (e : ValueEdit) (es : List ValueEdit) → capacity_needed (e ∷ []) o f ≤ capacity_needed (e ∷ es) o f
needed_first o f e es = first_counts o f e es (is_insert_at o f e) (list_any (is_insert_at o f) es)

-- capacity for an edit of a plan, as the plan and the objects change
pub place_for_less : (r r' : Slots) (plan plan' : List ValueEdit) → ((o f : ℕ) → HasPlaceAt r o f (capacity_needed plan o f) → HasPlaceAt r' o f (capacity_needed plan' o f)) → (e : ValueEdit) → HasPlaceFor r plan e → HasPlaceFor r' plan' e
place_for_less r r' plan plan' less (NewObject c) has = tt
place_for_less r r' plan plan' less (DropObject o) has = tt
place_for_less r r' plan plan' less (PutList o f list flag) has = less o.0 f.0 has
place_for_less r r' plan plan' less (InsertValue o f i v u) has = less o.0 f.0 has
place_for_less r r' plan plan' less (RemoveValue o f i) has = tt
place_for_less r r' plan plan' less (MoveValue o f to from) has = tt
place_for_less r r' plan plan' less (NewUri u) has = tt

-- capacity that is kept, if none is used
pub kept_for : (r r' : Slots) (plan : List ValueEdit) → KeepsPlaces (λ o f. 0) r r' → (e : ValueEdit) → HasPlaceFor r plan e → HasPlaceFor r' plan e
kept_for r r' plan kept = place_for_less r r' plan plan (λ o f has. fewer_at r' o f (capacity_needed plan o f - 0) (capacity_needed plan o f) (omega arith) (kept.places o f (capacity_needed plan o f) has))

-- if capacity of a list was reserved for one insert, it is there for the next insert
pub made_for : (r : Slots) (plan : List ValueEdit) (e : ValueEdit) → HasPlaceFor r plan e → HasPlacesIn r plan (inserted_in e)
made_for r plan (NewObject c) has = tt
made_for r plan (DropObject o) has = tt
made_for r plan (PutList o f list flag) has = tt
made_for r plan (InsertValue o f i v u) has = has
made_for r plan (RemoveValue o f i) has = tt
made_for r plan (MoveValue o f to from) has = tt
made_for r plan (NewUri u) has = tt

same_place : (r : Slots) (plan : List ValueEdit) (o f x g : ℕ) → eqb o x && eqb f g ≡ true → HasPlaceAt r o f (capacity_needed plan o f) → HasPlaceAt r x g (capacity_needed plan x g)
same_place r plan o f x g same has =
    let both = and_parts (eqb o x) (eqb f g) same in
    subst (λ k. HasPlaceAt r k g (capacity_needed plan k g)) (eqb-true o x both.0) (subst (λ k. HasPlaceAt r o k (capacity_needed plan o k)) (eqb-true f g both.1) has)

pub made_before : (r : Slots) (plan : List ValueEdit) (made : Option (ObjectNo × FeatureNo)) (e : ValueEdit) → is_insert_in made e ≡ true → HasPlacesIn r plan made → HasPlaceFor r plan e
made_before r plan made (NewObject c) same has = tt
made_before r plan made (DropObject o) same has = tt
made_before r plan None (PutList o f list flag) same has = cc
made_before r plan (Some p) (PutList o f list flag) same has = cc
made_before r plan None (InsertValue o f i v u) same has = cc
made_before r plan (Some p) (InsertValue o f i v u) same has = same_place r plan p.0.0 p.1.0 o.0 f.0 same has
made_before r plan made (RemoveValue o f i) same has = tt
made_before r plan made (MoveValue o f to from) same has = tt
made_before r plan made (NewUri u) same has = tt

-- if an edit puts a value into no list, it puts none into a given list
insert_at-insert : (o f : ℕ) (e : ValueEdit) → is_insert e ≡ false → is_insert_at o f e ≡ false
insert_at-insert o f (NewObject c) none = refl
insert_at-insert o f (DropObject x) none = refl
insert_at-insert o f (PutList x g list flag) none = refl
insert_at-insert o f (InsertValue x g i v u) none = cc
insert_at-insert o f (RemoveValue x g i) none = refl
insert_at-insert o f (MoveValue x g to from) none = refl
insert_at-insert o f (NewUri u) none = refl

none_inserted : (o f : ℕ) (es : List ValueEdit) → list_any is_insert es ≡ false → list_any (is_insert_at o f) es ≡ false
none_inserted o f [] none = refl
none_inserted o f (e ∷ es) none =
    let both = or_parts (is_insert e) (list_any is_insert es) none in
    rw (insert_at-insert o f e both.0) (none_inserted o f es both.1)

pub none_needed : (es : List ValueEdit) → list_any is_insert es ≡ false → (o f : ℕ) → capacity_needed [] o f ≡ capacity_needed es o f
none_needed es none o f = rw (none_inserted o f es none) refl

-- there is capacity for an edit of a plan if the plan needs as much
pub place_for_same : (r : Slots) (plan plan' : List ValueEdit) → ((o f : ℕ) → capacity_needed plan o f ≡ capacity_needed plan' o f) → (e : ValueEdit) → HasPlaceFor r plan e → HasPlaceFor r plan' e
place_for_same r plan plan' same = place_for_less r r plan plan' (λ o f has. subst (λ n. HasPlaceAt r o f n) (same o f) has)

-- with capacity for edits there is capacity for the first of them
pub room_first : (v : Values) (e : ValueEdit) (es : List ValueEdit) → HasRoom v (e ∷ es) → HasRoom v (e ∷ [])
room_first v e es room = record {
  slots = omega (arith, room.slots, sum_by-cons (λ x. cond (is_new_object x) 1 0) e es);
  places =
      let first = All-head (HasPlaceFor v.objects (e ∷ es)) e es room.places in
      let alone = place_for_less v.objects v.objects (e ∷ es) (e ∷ []) (λ o f has. fewer_at v.objects o f (capacity_needed (e ∷ es) o f) (capacity_needed (e ∷ []) o f) (needed_first o f e es) has) e first in
      All-cons (HasPlaceFor v.objects (e ∷ [])) e [] alone (All-nil (HasPlaceFor v.objects (e ∷ [])));
  uris = omega (arith, room.uris, sum_by-cons (λ x. cond (is_new_uri x) 1 0) e es);
}

-- there is capacity for a value that is put into a list
needed_insert : (o : ObjectNo) (f : FeatureNo) (i : ℕ) (w : Value) (u : Bool) → 1 ≤ capacity_needed (InsertValue o f i w u ∷ []) o.0 f.0
needed_insert o f i w u = rw (eq-eqb o.0 o.0 refl, eq-eqb f.0 f.0 refl) (omega arith)

pub insert_has_place : (v : Values) (o : ObjectNo) (f : FeatureNo) (i : ℕ) (w : Value) (u : Bool) → HasRoom v (InsertValue o f i w u ∷ []) → HasPlaceAt v.objects o.0 f.0 1
insert_has_place v o f i w u room =
    let has = All-head (HasPlaceFor v.objects (InsertValue o f i w u ∷ [])) (InsertValue o f i w u) [] room.places in
    fewer_at v.objects o.0 f.0 (capacity_needed (InsertValue o f i w u ∷ []) o.0 f.0) 1 (needed_insert o f i w u) has

pub put_has_place : (v : Values) (o : ObjectNo) (f : FeatureNo) (list : List Value) (flag : Bool) → HasRoom v (PutList o f list flag ∷ []) → HasPlaceAt v.objects o.0 f.0 0
put_has_place v o f list flag room =
    let has = All-head (HasPlaceFor v.objects (PutList o f list flag ∷ [])) (PutList o f list flag) [] room.places in
    fewer_at v.objects o.0 f.0 (capacity_needed (PutList o f list flag ∷ []) o.0 f.0) 0 (omega arith) has

-- after the first edit there is still capacity for the others
pub room_rest : (v w : Values) (e : ValueEdit) (es : List ValueEdit) → HasRoom v (e ∷ es) → KeepsPlaces (places_taken e) v.objects w.objects → w.objects.next ≡ v.objects.next + cond (is_new_object e) 1 0 → v.uris.room ≤ w.uris.room + cond (is_new_uri e) 1 0 → HasRoom w es
room_rest v w e es room kept next uris = record {
  slots = omega (arith, room.slots, sum_by-cons (λ x. cond (is_new_object x) 1 0) e es, kept.slots, next);
  places =
      let less = place_for_less v.objects w.objects (e ∷ es) es (λ o f has. fewer_at w.objects o f (capacity_needed (e ∷ es) o f - places_taken e o f) (capacity_needed es o f) (needed_behind o f e es) (kept.places o f (capacity_needed (e ∷ es) o f) has)) in
      All-weaker (HasPlaceFor v.objects (e ∷ es)) (HasPlaceFor w.objects es) less es (All-tail (HasPlaceFor v.objects (e ∷ es)) e es room.places);
  uris = omega (arith, room.uris, sum_by-cons (λ x. cond (is_new_uri x) 1 0) e es, uris);
}
