-- The values of an end that is written: at least one, no more than the end may have, and none twice if the feature is unique.
use Rattle.std.proofs.Common.{◌≡◌, ◌∙◌, ◌≤◌, ℕ, zero, suc, Bool, true, false, List, [], ◌∷◌, Option, Some, None, ap, arith, if◌then◌else◌, int_le, length, nat_eq, nat_le, option_map, option_to_list, pos, refl, slice_get, sym, subst}
use Rattle.std.specs.Prelude.{◌&&◌, Contains, IsTrue, not, option_and_then, unwrap_or}
use Rattle.std.specs.List.{IsDistinct, list_any}
use Rattle.std.specs.Option.{option_map_or}
use Rattle.std.proofs.lemmas.Bool.{and_parts, eq-eqb, false≢true, not-true}
use Rattle.std.proofs.lemmas.Bool.Decides.{nat_tests}
use Rattle.std.proofs.lemmas.Option.{none-some, same_Some}
use Rattle.mm_types.specs.Ends.{shown_values, value_in}
use Rattle.mm_types.specs.Ends as ends
use Rattle.mm_types.specs.Lookups as lookups
use Rattle.mm_types.specs.Same.{is_nil, same_value}
use Rattle.mm_types.specs.SameValues.{same_value-self}
use Rattle.mm_types.specs.Shapes.{Shape, is_bounded, shape}
use Rattle.mm_types.specs.declared.end.End.{End}
use Rattle.mm_types.specs.declared.feature.Feature.{Feature}
use Rattle.mm_types.specs.declared.limits.TheConstants.{LIST_VALUES}
use Rattle.mm_types.specs.declared.numbers.ClassNo.{ClassNo}
use Rattle.mm_types.specs.declared.numbers.FeatureNo.{FeatureNo}
use Rattle.mm_types.specs.declared.numbers.Node.TheVariants as node
use Rattle.mm_types.specs.declared.numbers.ObjectNo.{ObjectNo}
use Rattle.mm_types.specs.declared.value.Value.{Value}
use Rattle.mm_types.specs.declared.value.Value.TheVariants as value
use Rattle.mm_meta.proofs.OwnerLemmas.{has_none}
use Rattle.mm_values.specs.Values.{ObjectState, object_at, stored_under}
use Rattle.links.specs.LegalSets as sets
use Rattle.links.specs.Links.{end}
use Rattle.models.specs.Legal.{IsLegal, IsLegalObject, IsUniqueList, is_legal_end, is_legal_list}
use Rattle.models.specs.Model.{Model, attribute_values, kept_values, reading, values_at}
use Rattle.models.specs.Reading.{at_end, is_set}
use Rattle.models.proofs.EndLemmas.{upper-single, values-single}
use Rattle.models.proofs.PlaceLemmas.{legal-at}
use Rattle.containment.proofs.PartLemmas.{values-linked}
use Rattle.doc_writer.specs.Written.{is_written, written_features}
use Rattle.round_trip.proofs.ContainLemmas.{reference-plain}
use Rattle.round_trip.proofs.ValuesListLemmas.{stands}
use Rattle.round_trip.proofs.ListLemmas.{any-in, filtered-in, of-each}

---------------------------------------------------------------- the feature

-- the feature is one of the object's class, it is set, and no container reference
pub record IsWrittenOf (s : Model) (o : ObjectNo) (f : FeatureNo) : Type 0 where
  pub class : ClassNo
  pub is : (reading s).class o ≡ Some class
  pub has : lookups.has_feature s.metamodel class f ≡ true
  pub feature : Feature
  pub there : lookups.feature s.metamodel f ≡ Some feature
  pub set : is_set (reading s) (at_end (node.Object o) f) ≡ true
  pub plain : lookups.is_container s.metamodel f ≡ false

none-in : {X P : Type 0} (x : X) → Contains [] x → P
none-in x (k, low, at) = absurd (omega (arith, low))

module _ (s : Model) (legal : IsLegal s) (o : ObjectNo) (f : FeatureNo) where
  of-class : Contains (unwrap_or (option_and_then (lookups.features s.metamodel) ((reading s).class o)) []) f
      → (c : ClassNo) × ((reading s).class o ≡ Some c) × (lookups.has_feature s.metamodel c f ≡ true)
  of-class = by ((reading s).class o) refl
    where
      has : (c : ClassNo) (x : Option (List FeatureNo)) → Contains (unwrap_or x []) f → option_map_or (λ all. list_any (λ (g : FeatureNo). nat_eq g.0 f.0) all) x false ≡ true
      has c None there = none-in f there
      has c (Some all) there = any-in (λ (g : FeatureNo). nat_eq g.0 f.0) all f there (eq-eqb f.0 f.0 refl)

      by : (x : Option ClassNo) → (reading s).class o ≡ x → Contains (unwrap_or (option_and_then (lookups.features s.metamodel) x) []) f
          → (c : ClassNo) × ((reading s).class o ≡ Some c) × (lookups.has_feature s.metamodel c f ≡ true)
      by None is there = none-in f there
      by (Some c) is there = (c, is, has c (lookups.features s.metamodel c) there)

  a-feature : (c : ClassNo) → lookups.has_feature s.metamodel c f ≡ true → (g : Feature) × (lookups.feature s.metamodel f ≡ Some g)
  a-feature c has = by (lookups.feature s.metamodel f) refl
    where
      by : (x : Option Feature) → lookups.feature s.metamodel f ≡ x → (g : Feature) × (lookups.feature s.metamodel f ≡ Some g)
      by None none = absurd (false≢true (has_none s.metamodel legal.metamodel c f none ∙ has))
      by (Some g) is = (g, is)

  pub written-of : Contains (written_features (reading s) o) f → IsWrittenOf s o f
  written-of there =
      let kept = filtered-in (is_written (reading s) o) (unwrap_or (option_and_then (lookups.features s.metamodel) ((reading s).class o)) []) f there in
      let c = of-class kept.0 in
      let g = a-feature c.0 c.2 in
      let both = and_parts (is_set (reading s) (at_end (node.Object o) f)) (not (lookups.is_container s.metamodel f)) kept.1 in
      record { class = c.0; is = c.1; has = c.2; feature = g.0; there = g.1; set = both.0; plain = not-true (lookups.is_container s.metamodel f) both.1 }

---------------------------------------------------------------- what is kept for an attribute

-- a list that is kept has no more values than it may, and none twice if each is there once
record IsKept (a : Shape) (vs : List Value) : Type 0 where
  pub few : is_nil vs ≡ false → is_bounded a (length vs) ≡ true
  pub unique : IsUniqueList a.is_unique vs

none-twice : (b : Bool) → IsUniqueList b []
unfolding IsDistinct
none-twice true = tt
none-twice false = tt

kept-list : (s : Model) (f : FeatureNo) (x : Option ObjectState) → IsLegalObject s.metamodel x → IsKept (shape s.metamodel f) (unwrap_or (option_map (λ y. (stored_under y f).list) x) [])
kept-list s f None legal = record { few = λ h. absurd (false≢true (sym h)); unique = none-twice (shape s.metamodel f).is_unique }
kept-list s f (Some x) legal = record { few = by (stored_under x f).list (legal.1 f).values; unique = (legal.1 f).unique }
  where
    by : (vs : List Value) → IsTrue (is_legal_list s.metamodel x.class f vs) → is_nil vs ≡ false → is_bounded (shape s.metamodel f) (length vs) ≡ true
    by [] q h = absurd (false≢true (sym h))
    by (v ∷ vs) q h = (and_parts _ _ (and_parts _ _ q).1).1

kept : (s : Model) (o : ObjectNo) (f : FeatureNo) → IsLegal s → IsKept (shape s.metamodel f) (kept_values s.values (node.Object o) f)
kept s o f legal = kept-list s f (object_at s.values.objects o) (legal-at (IsLegalObject s.metamodel) s.values.objects o.0 tt legal.objects)

---------------------------------------------------------------- some values

one-bounded : (a : Shape) → a.upper ≡ pos 1 → is_bounded a 1 ≡ true
one-bounded a one = ap (λ u. nat_le 1 LIST_VALUES && (if int_le (pos 1) u then int_le (pos 1) u else true)) one

no-two : (a : Shape) (n : ℕ) → a.upper ≡ pos 1 → is_bounded a (suc (suc n)) ≡ true → ⊥
no-two a n one h =
    let below : (if int_le (pos 1) (pos 1) then int_le (pos (suc (suc n))) (pos 1) else true) ≡ true = subst (λ u. (if int_le (pos 1) u then int_le (pos (suc (suc n))) u else true) ≡ true) one (and_parts (nat_le (suc (suc n)) LIST_VALUES) _ h).1 in
    let few : suc (suc n) ≤ 1 = grind (arith, nat_tests, below) in
    omega (arith, few)

-- there is exactly one value if the feature is single, and at least one otherwise
pub record IsSome (a : Shape) (vs : List Value) : Type 0 where
  pub some : is_nil vs ≡ false
  pub one : a.is_single ≡ true → vs ≡ value_in vs 0 ∷ []
  pub few : is_bounded a (length vs) ≡ true

attribute-some : (a : Shape) (vs : List Value) → (a.is_single ≡ true → a.upper ≡ pos 1) → IsKept a vs → (a.is_single ≡ false → is_nil (attribute_values a vs) ≡ false) → IsSome a (attribute_values a vs)
attribute-some a [] upper h set =
    elim a.is_single as (λ b. a.is_single ≡ b → (a.is_single ≡ false → is_nil (if b then a.default ∷ [] else []) ≡ false) → IsSome a (if b then a.default ∷ [] else [])) [
      | true ↦ λ single _. record { some = refl; one = λ _. refl; few = one-bounded a (upper single) }
      | false ↦ λ many more. absurd (false≢true (sym (more many)))
    ] refl set
attribute-some a (v ∷ []) upper h set = record { some = refl; one = λ _. refl; few = h.few refl }
attribute-some a (v ∷ w ∷ ws) upper h set =
    record { some = refl; one = λ single. absurd (no-two a (length ws) (upper single) (h.few refl)); few = h.few refl }

many-some : (a : Shape) (vs : List Value) (flag : Bool) → a.is_single ≡ false → ends.is_set a (record { values = shown_values a.is_single vs; flag = flag }) ≡ true → is_nil vs ≡ false
many-some a vs flag many set =
    not-true (is_nil vs) (sym (ap (λ (b : Bool). if b then (if a.is_unsettable then flag else not (same_value (value_in (shown_values b vs) 0) a.default)) else not (is_nil (shown_values b vs))) many) ∙ set)

-- a reference that is set has at least one value
set-some : (a : Shape) (vs : List Value) (flag : Bool) → a.is_unsettable ≡ false → a.default ≡ value.Null → ends.is_set a (record { values = shown_values a.is_single vs; flag = flag }) ≡ true → is_nil vs ≡ false
set-some a [] flag settable null set =
    elim a.is_single as (λ b. (if b then (if a.is_unsettable then flag else not (same_value (value_in (shown_values b []) 0) a.default)) else not (is_nil (shown_values b []))) ≡ true → true ≡ false) [
      | true ↦ λ h. sym h ∙ (λ i. if settable i then flag else not (same_value value.Null (null i)))
      | false ↦ λ h. sym h
    ] set
set-some a (v ∷ vs) flag settable null set = refl

first-alone : (vs : List Value) → vs ≡ option_to_list (slice_get vs 0) → is_nil vs ≡ false → vs ≡ value_in vs 0 ∷ []
first-alone [] h some = absurd (false≢true (sym some))
first-alone (v ∷ vs) h some = h

pub end-few : (s : Model) (e : End) (vs : List Value) → IsTrue (is_legal_end (reading s) e vs) → is_nil vs ≡ false → is_bounded (shape s.metamodel e.feature) (length vs) ≡ true
end-few s e [] h some = absurd (false≢true (sym some))
end-few s e (v ∷ vs) h some = (and_parts _ _ (and_parts _ _ h).1).1

-- a list without repetitions has no value at two indexes
distinct-places : (vs : List Value) → IsDistinct same_value vs → sets.IsDistinct vs
unfolding IsDistinct
distinct-places [] d j k v at there = absurd (none-some v at)
distinct-places (w ∷ ws) d zero zero v at there = refl
distinct-places (w ∷ ws) d zero (suc k) v at there =
    absurd (false≢true (sym (of-each (λ y. same_value w y ≡ false) ws v d.0 (stands ws k v there)) ∙ ap (same_value w) (sym (same_Some w v at)) ∙ same_value-self w))
distinct-places (w ∷ ws) d (suc j) zero v at there =
    absurd (false≢true (sym (of-each (λ y. same_value w y ≡ false) ws v d.0 (stands ws j v at)) ∙ ap (same_value w) (sym (same_Some w v there)) ∙ same_value-self w))
distinct-places (w ∷ ws) d (suc j) (suc k) v at there = ap suc (distinct-places ws d.1 j k v at there)

one-place : (w : Value) (j : ℕ) (v : Value) → slice_get (w ∷ []) j ≡ Some v → j ≡ 0
one-place w zero v at = refl
one-place w (suc j) v at = absurd (none-some v at)

default-places : (b : Bool) (w : Value) → sets.IsDistinct (if b then w ∷ [] else [])
default-places true w j k v at there = one-place w j v at ∙ sym (one-place w k v there)
default-places false w j k v at there = absurd (none-some v at)

attribute-places : (a : Shape) (vs : List Value) → IsUniqueList true vs → sets.IsDistinct (attribute_values a vs)
attribute-places a [] d = default-places a.is_single a.default
attribute-places a (v ∷ vs) d = distinct-places (v ∷ vs) d

---------------------------------------------------------------- at an end of an object

module _ (s : Model) (legal : IsLegal s) (o : ObjectNo) (f : FeatureNo) where
  abbrev e : End
  e = at_end (node.Object o) f

  abbrev a : Shape
  a = shape s.metamodel f

  from-attribute : a.is_reference ≡ false → values_at s e ≡ attribute_values a (kept_values s.values (node.Object o) f)
  from-attribute attribute = rw attribute refl

  pub some-values : is_set (reading s) e ≡ true → IsSome a (values_at s e)
  some-values set =
      elim a.is_reference as (λ b. a.is_reference ≡ b → IsSome a (values_at s e)) [
        | true ↦ λ reference.
            let plain = reference-plain s.metamodel f reference in
            let some = set-some a (values_at s e) ((reading s).flag e) plain.0 plain.1 set in
            let linked = values-linked s e reference in
            record {
              some = some;
              one = λ single. first-alone (values_at s e) (values-single s e legal reference single) some;
              few = ap (λ (vs : List Value). is_bounded a (length vs)) linked ∙ end-few s e (end s.links e) (legal.links.ends e) (ap is_nil (sym linked) ∙ some);
            }
        | false ↦ λ attribute.
            let is = from-attribute attribute in
            subst (IsSome a) (sym is) (attribute-some a (kept_values s.values (node.Object o) f) (upper-single s.metamodel f) (kept s o f legal)
            (λ many. ap is_nil (sym is) ∙ many-some a (values_at s e) ((reading s).flag e) many set))
      ] refl

  pub apart-values : a.is_unique ≡ true → sets.IsDistinct (values_at s e)
  apart-values unique =
      elim a.is_reference as (λ b. a.is_reference ≡ b → sets.IsDistinct (values_at s e)) [
        | true ↦ λ reference. subst sets.IsDistinct (sym (values-linked s e reference)) (legal.links.set.placed.distinct e)
        | false ↦ λ attribute.
            subst sets.IsDistinct (sym (from-attribute attribute)) (attribute-places a (kept_values s.values (node.Object o) f) (subst (λ (b : Bool). IsUniqueList b (kept_values s.values (node.Object o) f)) unique (kept s o f legal).unique))
      ] refl
