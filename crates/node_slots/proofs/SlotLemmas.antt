-- The slot that a search finds, and the features after a write to it.
use Rattle.std.proofs.Common.{◌≡◌, ℕ, zero, suc, ◌<◌, ◌≤◌, Bool, true, false, eqb, List, [], ◌∷◌, ◌++◌, length, get_or, set, Option, Some, None, is_some, if◌then◌else◌, refl, sym, ap, ◌∙◌, subst, arith}
use Rattle.std.specs.List.{position, position_or_len}
use Rattle.std.proofs.lemmas.Bool.{eqb-true, eq-eqb, false≢true}
use Rattle.std.proofs.lemmas.Bool.Decides.{nat_tests}
use Rattle.std.proofs.lemmas.Grind.{common_steps}
use Rattle.std.proofs.lemmas.List.Quantifiers.{position-Some}
use Rattle.std.proofs.lemmas.List.Sums.{fails_before_first}
use Rattle.slot_lists.proofs.MoveLemmas.{remove_nothing}
use Rattle.mm_types.specs.Same.{same_feature}
use Rattle.mm_types.specs.declared.numbers.FeatureNo.{FeatureNo}
use Rattle.node_slots.specs.declared.slot.Slot.{Slot}
use Rattle.node_slots.specs.declared.slot.SlotEdit.{SlotEdit}
use Rattle.node_slots.specs.declared.slot.SlotEdit.TheVariants.{Insert, Push, Remove, Move, Forget}
use Rattle.node_slots.specs.Slots.{AreSlotsEdited, AreSlotsGrown, IsFeatureEdited, IsFeatureGrown, IsSlotEdited, mixed_of, no_pairing, pairing_after, places_of, slot_edit_capacity, slot_in, slot_places, values_after}
use Rattle.node_slots.proofs.ListLemmas.{shifted_past}

abbrev pub is_of : FeatureNo → Slot → Bool
is_of f s = same_feature s.feature f

-- the slot at i is the first of the feature
pub record IsFirst (ss : List Slot) (f : FeatureNo) (i : ℕ) (d : Slot) : Type 0 where
  pub in_range : i < length ss
  pub here : is_of f (get_or ss i d) ≡ true
  pub before : (k : ℕ) → k < i → is_of f (get_or ss k d) ≡ false

pub first : (ss ts : List Slot) (f : FeatureNo) (o : Option ℕ) (i : ℕ) (d : Slot) → ts ≡ ss → o ≡ position (is_of f) ts → o ≡ Some i → IsFirst ss f i d
first ss ts f o i d same search is =
    let at = position-Some (is_of f) ss i d (ap (position (is_of f)) (sym same) ∙ sym search ∙ is) in
    record { in_range = at.0; here = at.1; before = at.2 }

-- the only slot is the first of its feature
pub alone : (s : Slot) (f : FeatureNo) → is_of f s ≡ true → IsFirst (s ∷ []) f 0 s
alone s f is = record { in_range = omega arith; here = is; before = λ k h. absurd (omega (arith, h)) }

-- other features have no slot
pub other : (s : Slot) (f : FeatureNo) → is_of f s ≡ false → slot_in (s ∷ []) f ≡ None
other s f differs = ap (λ (b : Bool). if b then Some s else slot_in [] f) differs

-- its own feature has one
pub own : (s : Slot) (f : FeatureNo) → is_of f s ≡ true → slot_in (s ∷ []) f ≡ None → ⊥
own s f is none =
    let here : slot_in (s ∷ []) f ≡ Some s = ap (λ (b : Bool). if b then Some s else slot_in [] f) is in
    cc

---------------------------------------------------------------- reads

pub found : (ss : List Slot) (f : FeatureNo) (i : ℕ) (d : Slot) → IsFirst ss f i d → slot_in ss f ≡ Some (get_or ss i d)
found [] f i d at = absurd (omega (arith, at.in_range))
found (s ∷ ss) f zero d at = ap (λ (b : Bool). if b then Some s else slot_in ss f) at.here
found (s ∷ ss) f (suc i) d at = ap (λ (b : Bool). if b then Some s else slot_in ss f) (at.before zero (omega arith)) ∙ found ss f i d (record {
  in_range = omega (arith, at.in_range);
  here = at.here;
  before = λ k h. at.before (suc k) (omega (arith, h));
})

none_in : (ss : List Slot) (f : FeatureNo) → ((k : ℕ) (d : Slot) → k < length ss → is_of f (get_or ss k d) ≡ false) → slot_in ss f ≡ None
none_in [] f none = refl
none_in (s ∷ ss) f none = ap (λ (b : Bool). if b then Some s else slot_in ss f) (none zero s (omega arith)) ∙ none_in ss f (λ k d h. none (suc k) d (omega (arith, h)))

pub past_all : {X : Type 0} (p : X → Bool) (xs : List X) → position p xs ≡ None → length xs ≤ position_or_len p xs
past_all p xs e = grind (arith, common_steps, nat_tests)

pub missing : (ss ts : List Slot) (f : FeatureNo) (o : Option ℕ) → ts ≡ ss → o ≡ position (is_of f) ts → o ≡ None → slot_in ss f ≡ None
missing ss ts f o same search is =
    let le = past_all (is_of f) ss (ap (position (is_of f)) (sym same) ∙ sym search ∙ is) in
    none_in ss f (λ k d h. fails_before_first (is_of f) ss k d (omega (arith, h, le)))

some_is : (ss : List Slot) (f : FeatureNo) (i : ℕ) → position (is_of f) ss ≡ Some i → slot_in ss f ≡ None → ⊥
some_is [] f i e none = cc
some_is (s ∷ ss) f i e none =
    let at = found (s ∷ ss) f i s (first (s ∷ ss) (s ∷ ss) f (Some i) i s refl (sym e) refl) in
    cc

pub present : (ss ts : List Slot) (f : FeatureNo) (o : Option ℕ) → ts ≡ ss → o ≡ position (is_of f) ts → is_some o ≡ true → slot_in ss f ≡ None → ⊥
present ss ts f None same search is none = false≢true is
present ss ts f (Some i) same search is none = some_is ss f i (ap (position (is_of f)) (sym same) ∙ sym search) none

-- a slot is found by the number of its feature
pub same_slot : (ss : List Slot) (f g : FeatureNo) → f.0 ≡ g.0 → slot_in ss g ≡ slot_in ss f
same_slot ss f g e = ap (λ (k : ℕ). slot_in ss (record { 0 = k })) (sym e)

---------------------------------------------------------------- a write

pub written : (ss : List Slot) (f : FeatureNo) (i : ℕ) (d t : Slot) → IsFirst ss f i d → t.feature.0 ≡ f.0 → (g : FeatureNo) → slot_in (set ss i t) g ≡ (if same_feature f g then Some t else slot_in ss g)
written [] f i d t at same g = absurd (omega (arith, at.in_range))
written (s ∷ ss) f zero d t at same g =
    let here : s.feature.0 ≡ f.0 = eqb-true s.feature.0 f.0 at.here in
    elim (eqb f.0 g.0) as (λ b. eqb f.0 g.0 ≡ b → (if eqb t.feature.0 g.0 then Some t else slot_in ss g) ≡ (if b then Some t else (if eqb s.feature.0 g.0 then Some s else slot_in ss g))) [
      | true ↦ λ q. ap (λ (b : Bool). if b then Some t else slot_in ss g) (ap (λ (k : ℕ). eqb k g.0) same ∙ q)
      | false ↦ λ q.
          ap (λ (b : Bool). if b then Some t else slot_in ss g) (ap (λ (k : ℕ). eqb k g.0) same ∙ q)
          ∙ sym (ap (λ (b : Bool). if b then Some s else slot_in ss g) (ap (λ (k : ℕ). eqb k g.0) here ∙ q))
    ] refl
written (s ∷ ss) f (suc i) d t at same g =
    elim (eqb s.feature.0 g.0) as (λ b. eqb s.feature.0 g.0 ≡ b → (if b then Some s else slot_in (set ss i t) g) ≡ (if eqb f.0 g.0 then Some t else (if b then Some s else slot_in ss g))) [
      | true ↦ λ q.
          elim (eqb f.0 g.0) as (λ b. eqb f.0 g.0 ≡ b → Some s ≡ (if b then Some t else Some s)) [
            | true ↦ λ r. absurd (false≢true (sym (at.before zero (omega arith)) ∙ eq-eqb s.feature.0 f.0 (eqb-true s.feature.0 g.0 q ∙ sym (eqb-true f.0 g.0 r))))
            | false ↦ λ r. refl
          ] refl
      | false ↦ λ q. written ss f i d t (record {
        in_range = omega (arith, at.in_range);
        here = at.here;
        before = λ k h. at.before (suc k) (omega (arith, h));
      }) same g
    ] refl

-- the slot s that was read is written as t
module _ (ss : List Slot) (f : FeatureNo) (i : ℕ) (s t : Slot) (at : IsFirst ss f i s) (read : s ≡ get_or ss i s) where
  pub was : slot_in ss f ≡ Some s
  was = found ss f i s at ∙ ap Some (sym read)

  pub its_feature : s.feature.0 ≡ f.0
  its_feature = ap (λ (x : Slot). x.feature.0) read ∙ eqb-true _ f.0 at.here

  pub is_now : t.feature ≡ s.feature → slot_in (set ss i t) f ≡ Some t
  is_now same =
      written ss f i s t at (ap (λ (x : FeatureNo). x.0) same ∙ its_feature) f
      ∙ ap (λ (b : Bool). if b then Some t else slot_in ss f) (eq-eqb f.0 f.0 refl)

  pub edited : (x : SlotEdit) → IsSlotEdited x s t → AreSlotsEdited f x ss (set ss i t)
  edited x h = record {
    here = subst (λ (o : Option Slot). IsFeatureEdited x o (slot_in (set ss i t) f)) (sym was) (subst (λ (o : Option Slot). IsFeatureEdited x (Some s) o) (sym (is_now h.feature)) (record {
      values = h.values;
      pairing = h.pairing;
      places = h.places;
      mixed = h.mixed;
    }));
    others = λ g apart.
        written ss f i s t at (ap (λ (x : FeatureNo). x.0) h.feature ∙ its_feature) g
        ∙ elim (eqb f.0 g.0) as (λ b. eqb f.0 g.0 ≡ b → (if b then Some t else slot_in ss g) ≡ slot_in ss g) [
          | true ↦ λ q. absurd (apart (eqb-true f.0 g.0 q))
          | false ↦ λ q. refl
        ] refl;
  }

  pub grown : t.feature ≡ s.feature → t.values.items ≡ s.values.items → t.pairing ≡ s.pairing → slot_places s ≤ slot_places t → (s.values.mixed ≡ true → t.values.mixed ≡ true) → AreSlotsGrown ss (set ss i t)
  grown same values pairing places mixed g =
      subst (λ (o : Option Slot). IsFeatureGrown (slot_in ss g) o) (sym (written ss f i s t at (ap (λ (x : FeatureNo). x.0) same ∙ its_feature) g))
      (elim (eqb f.0 g.0) as (λ b. eqb f.0 g.0 ≡ b → IsFeatureGrown (slot_in ss g) (if b then Some t else slot_in ss g)) [
        | true ↦ λ q. subst (λ (o : Option Slot). IsFeatureGrown o (Some t)) (sym (same_slot ss f g (eqb-true f.0 g.0 q) ∙ was)) (record {
          values = values;
          pairing = pairing;
          places = places;
          mixed = mixed;
        })
        | false ↦ λ q. record { values = refl; pairing = refl; places = omega arith; mixed = λ h. h }
      ] refl)

  pub places_now : t.feature ≡ s.feature → places_of (slot_in (set ss i t) f) ≡ slot_places t
  places_now same = ap places_of (is_now same)

  pub mixed_now : t.feature ≡ s.feature → mixed_of (slot_in (set ss i t) f) ≡ t.values.mixed
  mixed_now same = ap mixed_of (is_now same)

-- without a slot only a put has an effect
pub nothing_after : (x : SlotEdit) → slot_edit_capacity x ≤ 0 → [] ≡ values_after x []
nothing_after (Insert i v p) le = absurd (omega (arith, le))
nothing_after (Push v p) le = absurd (omega (arith, le))
nothing_after (Remove i) le = sym (remove_nothing i)
nothing_after (Move to from) le = shifted_past [] to from (omega arith)
nothing_after (Forget n) le = refl

pub nothing_told : (x : SlotEdit) → slot_edit_capacity x ≤ 0 → no_pairing ≡ pairing_after x no_pairing
nothing_told (Insert i v p) le = absurd (omega (arith, le))
nothing_told (Push v p) le = absurd (omega (arith, le))
nothing_told (Remove i) le = refl
nothing_told (Move to from) le = refl
nothing_told (Forget n) le = refl

none_edited : (x : SlotEdit) (o : Option Slot) → o ≡ None → slot_edit_capacity x ≤ places_of o → IsFeatureEdited x o o
none_edited x None is le = record { values = nothing_after x le; pairing = nothing_told x le; places = omega arith; mixed = refl }
none_edited x (Some s) is le = cc

pub unedited : (ss : List Slot) (f : FeatureNo) (x : SlotEdit) → slot_in ss f ≡ None → slot_edit_capacity x ≤ places_of (slot_in ss f) → AreSlotsEdited f x ss ss
unedited ss f x none le = record { here = none_edited x (slot_in ss f) none le; others = λ g apart. refl }

pub unedited_none : (f : FeatureNo) (x : SlotEdit) → slot_edit_capacity x ≤ 0 → AreSlotsEdited f x [] []
unedited_none f x le = unedited [] f x refl le

---------------------------------------------------------------- one more slot

module _ (s : Slot) (none : s.values.items ≡ []) (told : s.pairing ≡ no_pairing) where
  pub pushed : (ss : List Slot) → AreSlotsGrown ss (ss ++ s ∷ [])
  pushed [] g = elim (eqb s.feature.0 g.0) as (λ b. IsFeatureGrown None (if b then Some s else None)) [
    | true ↦ record { values = none; pairing = told; places = omega arith; mixed = λ h. absurd (false≢true h) }
    | false ↦ record { values = refl; pairing = refl; places = omega arith; mixed = λ h. h }
  ]
  pushed (x ∷ ss) g = elim (eqb x.feature.0 g.0) as (λ b. IsFeatureGrown (if b then Some x else slot_in ss g) (if b then Some x else slot_in (ss ++ s ∷ []) g)) [
    | true ↦ record { values = refl; pairing = refl; places = omega arith; mixed = λ h. h }
    | false ↦ pushed ss g
  ]

pub is_there : (ss : List Slot) (s : Slot) → slot_in (ss ++ s ∷ []) s.feature ≡ None → ⊥
is_there [] s none =
    let here : (if eqb s.feature.0 s.feature.0 then Some s else None) ≡ Some s = ap (λ (b : Bool). if b then Some s else None) (eq-eqb s.feature.0 s.feature.0 refl) in
    cc
is_there (x ∷ ss) s none =
    elim (eqb x.feature.0 s.feature.0) as (λ b. (if b then Some x else slot_in (ss ++ s ∷ []) s.feature) ≡ None → ⊥) [
      | true ↦ λ q. cc
      | false ↦ λ q. is_there ss s q
    ] none

-- a new slot after the only one
pub joined : (s n : Slot) (ss : List Slot) → n.values.items ≡ [] → n.pairing ≡ no_pairing → ss ≡ s ∷ n ∷ [] → AreSlotsGrown (s ∷ []) ss
joined s n ss none told is = subst (λ (xs : List Slot). AreSlotsGrown (s ∷ []) xs) (sym is) (pushed n none told (s ∷ []))

pub joined_there : (s n : Slot) (ss : List Slot) (f : FeatureNo) → n.feature ≡ f → ss ≡ s ∷ n ∷ [] → slot_in ss f ≡ None → ⊥
joined_there s n ss f named is none =
    is_there (s ∷ []) n (subst (λ (g : FeatureNo). slot_in (s ∷ n ∷ []) g ≡ None) (sym named) (subst (λ (xs : List Slot). slot_in xs f ≡ None) is none))

pub begun : (s : Slot) (f : FeatureNo) → s.feature ≡ f → slot_in (s ∷ []) f ≡ None → ⊥
begun s f named none = is_there [] s (subst (λ (g : FeatureNo). slot_in (s ∷ []) g ≡ None) (sym named) none)
