-- The lists and entries of an object give the ends that have it.
use Rattle.std.proofs.Common.{◌≡◌, ℕ, zero, suc, ◌+◌, ◌<◌, ◌≤◌, true, false, List, [], ◌∷◌, ◌++◌, drop, length, add-one, append-nil, append_assoc, Option, Some, None, if◌then◌else◌, MatchOption, map, refl, sym, ap, ◌∙◌, subst, inl, inr, arith}
use Rattle.std.specs.List.{position, slice_get}
use Rattle.std.specs.Option.{option_and_then, option_to_list}
use Rattle.std.specs.Coded.{Coded-set, coded_bool}
use Rattle.std.proofs.Math.Logic.{∥∥₁_elim}
use Rattle.std.proofs.lemmas.Bool.{eqb-true, false≢true, or_cases, or_left}
use Rattle.std.proofs.lemmas.List.{drop_all}
use Rattle.std.proofs.lemmas.Option.{none-some, same_Some}
use Rattle.mm_types.specs.Same.{same_end, same_feature, same_value}
use Rattle.mm_types.specs.declared.numbers.FeatureNo.{FeatureNo}
use Rattle.mm_types.specs.declared.numbers.Node.{Node}
use Rattle.mm_types.specs.declared.numbers.Node.TheVariants as node
use Rattle.mm_types.specs.declared.numbers.ObjectNo.{ObjectNo}
use Rattle.mm_types.specs.declared.end.End.{End}
use Rattle.mm_types.specs.declared.value.Value.{Value}
use Rattle.mm_types.specs.declared.value.Value.TheVariants as value
use Rattle.mm_types.proofs.SameLemmas.{same_end-self, same_end-true}
use Rattle.links.specs.Links.{end, far_end, object_of}
use Rattle.links.specs.Plans.{AreIncoming, AreInOrder, AreEntriesOf, Lacks, has_end, incoming_end}
use Rattle.links.specs.LegalSets.{IsLegalSet}
use Rattle.links.specs.Found.{entries_by}
use Rattle.links.proofs.EntriesLemmas.{has_end_cases, has_end_left, has_end_right, incoming-same, entries_all}
use Rattle.node_slots.specs.declared.node_slots.NodeSlots.{NodeSlots}
use Rattle.node_slots.specs.declared.slot.Slot.{Slot}
use Rattle.node_slots.specs.Slots.{slot_in, values_of}
use Rattle.node_slots.specs.Rows.{row_slots}
use Rattle.node_slots.specs.Cells.{Cells, cells, row_at}
use Rattle.slot_store.specs.CellLinks.{HasValue, IsStore, store_links}
use Rattle.slot_store.specs.Entering.{ends_at, entering_ends, far_ends, far_ends_of, far_of, found_in, paired_ends}
use Rattle.slot_store.proofs.PositionLemmas.{position_at, position_lacks}
use Rattle.slot_store.proofs.StoreLemmas.{ends_kept}

---------------------------------------------------------------- the values of an end

far_ends_suc : (f : FeatureNo) (vs : List Value) (i : ℕ) → i < length vs → far_ends f (drop i vs) ≡ far_of f (option_and_then object_of (slice_get vs i)) ++ far_ends f (drop (suc i) vs)
far_ends_suc f [] i lt = absurd (omega (arith, lt))
far_ends_suc f (v ∷ vs) zero lt = refl
far_ends_suc f (v ∷ vs) (suc i) lt = far_ends_suc f vs i (omega (arith, lt))

-- one more of the values that are left to read
pub next_far : (f : FeatureNo) (vs : List Value) (i : ℕ) (o : Option ObjectNo) (out now all : List End) → i < length vs → o ≡ option_and_then object_of (slice_get vs i) → now ≡ out ++ far_of f o → out ++ far_ends f (drop i vs) ≡ all → now ++ far_ends f (drop (i + 1) vs) ≡ all
next_far f vs i o out now all lt at is rest =
    let left = far_ends f (drop (i + 1) vs) in
    let part = far_of f (option_and_then object_of (slice_get vs i)) in
    let step : far_ends f (drop i vs) ≡ part ++ left = rw add-one (far_ends_suc f vs i lt) in
    let assoc : (out ++ part) ++ left ≡ out ++ (part ++ left) = rw append_assoc refl in
    ap (λ (es : List End). es ++ left) (is ∙ ap (λ (p : Option ObjectNo). out ++ far_of f p) at)
    ∙ assoc
    ∙ ap (λ (es : List End). out ++ es) (sym step)
    ∙ rest

pub last_far : (f : FeatureNo) (vs : List Value) (i : ℕ) (out all : List End) → length vs ≤ i → out ++ far_ends f (drop i vs) ≡ all → out ≡ all
last_far f vs i out all le rest = sym (append-nil out) ∙ ap (λ (ws : List Value). out ++ far_ends f ws) (sym (drop_all i vs le)) ∙ rest

---------------------------------------------------------------- the entries

drop_end : (ds : List End) (i : ℕ) → i < length ds → drop i ds ≡ option_to_list (slice_get ds i) ++ drop (suc i) ds
drop_end [] i lt = absurd (omega (arith, lt))
drop_end (d ∷ ds) zero lt = refl
drop_end (d ∷ ds) (suc i) lt = drop_end ds i (omega (arith, lt))

-- one more of the ends that are left to read
pub next_end : (ds : List End) (i : ℕ) (o : Option End) (out now all : List End) → i < length ds → o ≡ slice_get ds i → now ≡ out ++ option_to_list o → out ++ drop i ds ≡ all → now ++ drop (i + 1) ds ≡ all
next_end ds i o out now all lt at is rest =
    let left = drop (i + 1) ds in
    let step : drop i ds ≡ option_to_list (slice_get ds i) ++ left = rw add-one (drop_end ds i lt) in
    let part = option_to_list (slice_get ds i) in
    let assoc : (out ++ part) ++ left ≡ out ++ (part ++ left) = rw append_assoc refl in
    ap (λ (es : List End). es ++ left) (is ∙ ap (λ (p : Option End). out ++ option_to_list p) at)
    ∙ assoc
    ∙ ap (λ (es : List End). out ++ es) (sym step)
    ∙ rest

---------------------------------------------------------------- members

far_has : (f : FeatureNo) (vs : List Value) (x : End) → has_end (far_ends f vs) x ≡ true → (k : ℕ) × (p : ObjectNo) × (slice_get vs k ≡ Some (value.Object p)) × (far_end p f ≡ x)
far_has f [] x h = absurd (false≢true h)
far_has f (value.Object p ∷ vs) x h = elim (or_cases (same_end (far_end p f) x) (has_end (far_ends f vs) x) h) [
  | inl is ↦ (zero, p, refl, same_end-true (far_end p f) x is)
  | inr later ↦ let r = far_has f vs x later in (suc r.0, r.1, r.2, r.3)
]
far_has f (v ∷ vs) x h = let r = far_has f vs x h in (suc r.0, r.1, r.2, r.3)

has_far : (f : FeatureNo) (vs : List Value) (k : ℕ) (p : ObjectNo) → slice_get vs k ≡ Some (value.Object p) → has_end (far_ends f vs) (far_end p f) ≡ true
has_far f [] k p h = absurd (none-some (value.Object p) h)
has_far f (v ∷ vs) zero p h =
    subst (λ (w : Value). has_end (far_ends f (w ∷ vs)) (far_end p f) ≡ true) (sym (same_Some v (value.Object p) h)) (or_left _ _ (same_end-self (far_end p f)))
has_far f (v ∷ vs) (suc k) p h = has_end_right (far_of f (object_of v)) (far_ends f vs) (far_end p f) (has_far f vs k p h)

far_of_has : (o : Option FeatureNo) (vs : List Value) (x : End) → has_end (far_ends_of o vs) x ≡ true → (k : ℕ) × (p : ObjectNo) × (slice_get vs k ≡ Some (value.Object p)) × (o ≡ Some x.feature) × (far_end p x.feature ≡ x)
far_of_has None vs x h = absurd (false≢true h)
far_of_has (Some f) vs x h =
    let r = far_has f vs x h in
    let feature : f ≡ x.feature = λ i. (r.3 i).feature in
    (r.0, r.1, r.2, ap Some feature, ap (λ (g : FeatureNo). far_end r.1 g) (sym feature) ∙ r.3)

module _ (c : Cells) (o : ObjectNo) where
  paired_has : (ss : List Slot) (x : End) → has_end (paired_ends c o ss) x ≡ true → (g : FeatureNo) × (k : ℕ) × (p : ObjectNo) × (slice_get (c.vals (far_end o g)) k ≡ Some (value.Object p)) × ((c.pairing (far_end o g)).opposite ≡ Some x.feature) × (far_end p x.feature ≡ x)
  paired_has [] x h = absurd (false≢true h)
  paired_has (s ∷ ss) x h = elim (has_end_cases (ends_at c (far_end o s.feature)) (paired_ends c o ss) x h) [
    | inl here ↦ let y = far_end o s.feature in let r = far_of_has (c.pairing y).opposite (c.vals y) x here in (s.feature, r.0, r.1, r.2, r.3, r.4)
    | inr later ↦ paired_has ss x later
  ]

  at_has : (y : End) (f : FeatureNo) (k : ℕ) (p : ObjectNo) → (c.pairing y).opposite ≡ Some f → slice_get (c.vals y) k ≡ Some (value.Object p) → has_end (ends_at c y) (far_end p f) ≡ true
  at_has y f k p q h = subst (λ (g : Option FeatureNo). has_end (far_ends_of g (c.vals y)) (far_end p f) ≡ true) (sym q) (has_far f (c.vals y) k p h)

  -- a feature with a value has a slot
  has_paired : (ss : List Slot) (g f : FeatureNo) (k : ℕ) (p : ObjectNo) (w : Value) → slice_get (values_of (slot_in ss g)) k ≡ Some w → (c.pairing (far_end o g)).opposite ≡ Some f → slice_get (c.vals (far_end o g)) k ≡ Some (value.Object p) → has_end (paired_ends c o ss) (far_end p f) ≡ true
  has_paired [] g f k p w slot q h = absurd (none-some w slot)
  has_paired (s ∷ ss) g f k p w slot q h =
      elim (same_feature s.feature g) as (λ b. same_feature s.feature g ≡ b → slice_get (values_of (if b then Some s else slot_in ss g)) k ≡ Some w → has_end (paired_ends c o (s ∷ ss)) (far_end p f) ≡ true) [
        | true ↦ λ is at.
            let same : g ≡ s.feature = λ i. record { 0 = sym (eqb-true s.feature.0 g.0 is) i } in
            has_end_left (ends_at c (far_end o s.feature)) (paired_ends c o ss) (far_end p f)
            (subst (λ (e : FeatureNo). has_end (ends_at c (far_end o e)) (far_end p f) ≡ true) same (at_has (far_end o g) f k p q h))
        | false ↦ λ is at. has_end_right (ends_at c (far_end o s.feature)) (paired_ends c o ss) (far_end p f) (has_paired ss g f k p w at q h)
      ] refl slot

---------------------------------------------------------------- of rows

module _ (t : NodeSlots) (kept : ∥ IsStore t ∥₁) (o : ObjectNo) where
  abbrev slots : List Slot
  slots = row_slots (row_at t (node.Object o))

  abbrev all : List End
  all = entering_ends (cells t) o slots

  own : (g : FeatureNo) → (cells t).vals (far_end o g) ≡ values_of (slot_in slots g)
  unfolding cells
  own g = refl

  stands_there : IsStore t → (x : End) → has_end all x ≡ true → HasValue ((cells t).vals x) (value.Object o)
  stands_there ok x h = elim (has_end_cases (paired_ends (cells t) o slots) ((cells t).entered (node.Object o)) x h) [
    | inl paired ↦
        let r = paired_has (cells t) o slots x paired in
        let m = ok.lists.mutual_ (far_end o r.0) r.1 r.2 x.feature r.3 r.4 in
        subst (λ (y : End). HasValue ((cells t).vals y) (value.Object o)) r.5 m.back
    | inr alone ↦ ((ok.entered o x).0 alone).1
  ]

  is_entered : IsStore t → (n : Node) (f : FeatureNo) → let x : End = record { node = n; feature = f } in HasValue ((cells t).vals x) (value.Object o) → (g : Option FeatureNo) → ((cells t).pairing x).opposite ≡ g → has_end all x ≡ true
  is_entered ok n f at None q =
      let x : End = record { node = n; feature = f } in
      has_end_right (paired_ends (cells t) o slots) ((cells t).entered (node.Object o)) x ((ok.entered o x).1 (q, at))
  is_entered ok (node.Resource r) f at (Some g) q = absurd (ok.lists.mutual_ (record { node = node.Resource r; feature = f }) at.0 o g at.1 q).object
  is_entered ok (node.Object p) f at (Some g) q =
      let m = ok.lists.mutual_ (far_end p f) at.0 o g at.1 q in
      let slot = ap (λ (vs : List Value). slice_get vs m.back.0) (sym (own g)) ∙ m.back.1 in
      has_end_left (paired_ends (cells t) o slots) ((cells t).entered (node.Object o)) (far_end p f) (has_paired (cells t) o slots g f m.back.0 p (value.Object p) slot m.opposite m.back.1)

  found : (x : End) → has_end all x ≡ true → (i : Option ℕ) → position (same_value (value.Object o)) ((cells t).vals x) ≡ i → HasValue ((cells t).vals x) (value.Object o)
  found x h (Some i) q = (i, position_at ((cells t).vals x) (value.Object o) i q)
  found x h None q = absurd (∥∥₁_elim kept (λ a b. absurd a) (λ ok. let at = stands_there ok x h in position_lacks ((cells t).vals x) (value.Object o) at.0 q at.1))

  pub entering_is : AreIncoming (store_links t) o all
  entering_is x = (
    λ h. (let at = found x h (position (same_value (value.Object o)) ((cells t).vals x)) refl in (at.0, ap (λ (vs : List Value). slice_get vs at.0) (ends_kept t kept x) ∙ at.1)),
    λ has. ∥∥₁_elim kept (Coded-set coded_bool _ _) (λ ok. is_entered ok x.node x.feature (has.0, sym (ap (λ (vs : List Value). slice_get vs has.0) (ends_kept t kept x)) ∙ has.1) ((cells t).pairing x).opposite refl),
  )

  -- a search of an end finds the position of the object
  search_law : (e : End) → MatchOption (found_in (cells t) (value.Object o) e) (Lacks (store_links t) e (value.Object o)) (λ k. slice_get (end (store_links t) e) k ≡ Some (value.Object o))
  search_law e = by (found_in (cells t) (value.Object o) e) refl
    where
      same : (k : ℕ) → slice_get (end (store_links t) e) k ≡ slice_get ((cells t).vals e) k
      same k = ap (λ (vs : List Value). slice_get vs k) (ends_kept t kept e)

      by : (i : Option ℕ) → found_in (cells t) (value.Object o) e ≡ i → MatchOption i (Lacks (store_links t) e (value.Object o)) (λ k. slice_get (end (store_links t) e) k ≡ Some (value.Object o))
      by None q = λ k h. position_lacks ((cells t).vals e) (value.Object o) k q (sym (same k) ∙ h)
      by (Some i) q = same i ∙ position_at ((cells t).vals e) (value.Object o) i q

  -- all positions of the object, in the ends that have it in order
  pub entering_places : IsLegalSet (store_links t) → (es : List End) → AreInOrder es → ((e : End) → has_end es e ≡ has_end all e) → (let is = entries_by (found_in (cells t) (value.Object o)) es in AreEntriesOf (store_links t) o is × AreInOrder (map incoming_end is))
  entering_places legal es order same = entries_all (store_links t) legal.placed.distinct o (found_in (cells t) (value.Object o)) search_law es (incoming-same (store_links t) o all es same entering_is) order
