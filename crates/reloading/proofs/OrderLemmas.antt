-- Lists of resources without repeats, and how many objects and URIs they have.
use Rattle.std.proofs.Common.{◌≡◌, ◌∙◌, ℕ, suc, ◌<◌, ◌≤◌, Bool, true, false, ◌||◌, cond, List, [], ◌∷◌, ◌++◌, Option, Some, None, flat_map, length, map, nat_eq, nat_lt, option_map, unwrap_or, arith, eq-eqb, eqb-true, inl, inr, refl, sym, ap}
use Rattle.std.specs.Prelude.{Contains, position}
use Rattle.std.specs.List.{AllByRecursion, IsDistinct, list_any}
use Rattle.std.proofs.lemmas.Bool.{false≢true, or_cases, or_left, or_parts, or_right}
use Rattle.std.proofs.lemmas.Bool.Decides.{nat_tests}
use Rattle.std.proofs.lemmas.List.{length-map}
use Rattle.std.proofs.lemmas.List.Folds.{list_any-append}
use Rattle.std.proofs.lemmas.Map.Steps.{length-le_from_distinct_below}
use Rattle.std.proofs.lemmas.Option.{none-some, same_Some}
use Rattle.mm_types.specs.Same.{same_object}
use Rattle.mm_types.specs.declared.numbers.ObjectNo.{ObjectNo}
use Rattle.mm_types.specs.declared.numbers.ResourceNo.{ResourceNo}
use Rattle.models.specs.Legal.{IsLegal}
use Rattle.models.specs.Model.{Model, reading}
use Rattle.models.specs.Reading.{has_resource}
use Rattle.containment.proofs.DistinctLemmas.{distinct-++}
use Rattle.mm_meta.proofs.FeatureListLemmas.{all-append}
use Rattle.containment.proofs.PartLemmas.{live-made}
use Rattle.doc_writer.specs.Written.{objects_in}
use Rattle.doc_parts.proofs.WayLemmas.{position_cons}
use Rattle.round_trip.proofs.InsideLemmas.{written-inside}
use Rattle.round_trip.proofs.OrderLemmas.{objects-apart}
use Rattle.round_trip.proofs.ShapeLemmas.{live-inside}
use Rattle.round_trip.proofs.ValuesListLemmas.{among-found}
use Rattle.reloading.specs.Orders.{has, is_same, number_of}

---------------------------------------------------------------- numbers

turned : (k j : ResourceNo) → is_same k j ≡ is_same j k
turned k j = by k.0 j.0
  where
    by : (x y : ℕ) → nat_eq x y ≡ nat_eq y x
    by x y = grind (arith, nat_tests)

pub self : (k : ResourceNo) → is_same k k ≡ true
self k = eq-eqb k.0 k.0 refl

-- an element that is found in a list is found at the same index in a longer list
pub position-append : {X : Type 0} (p : X → Bool) (xs ys : List X) (i : ℕ) → position p xs ≡ Some i → position p (xs ++ ys) ≡ Some i
position-append p [] ys i h = absurd (none-some i h)
position-append {X} p (x ∷ xs) ys i h =
    position_cons p x (xs ++ ys)
    ∙ elim (p x) as (λ b. cond b (Some 0) (option_map suc (position p xs)) ≡ Some i → cond b (Some 0) (option_map suc (position p (xs ++ ys))) ≡ Some i) [
      | true ↦ λ q. q
      | false ↦ λ q. by (position p xs) refl q (λ j is. position-append p xs ys j is)
    ] (sym (position_cons p x xs) ∙ h)
  where
    by : (q : Option ℕ) → position p xs ≡ q → option_map suc q ≡ Some i → ((j : ℕ) → position p xs ≡ Some j → position p (xs ++ ys) ≡ Some j) → option_map suc (position p (xs ++ ys)) ≡ Some i
    by None is none rest = absurd (none-some i none)
    by (Some j) is some rest = ap (option_map suc) (rest j is) ∙ some

-- an element that is not found in a list is found last after it is appended
position-last : {X : Type 0} (p : X → Bool) (xs : List X) (y : X) → list_any p xs ≡ false → p y ≡ true → position p (xs ++ y ∷ []) ≡ Some (length xs)
position-last p [] y none passes = position_cons p y [] ∙ ap (λ (b : Bool). cond b (Some 0) (option_map suc (position p []))) passes
position-last p (x ∷ xs) y none passes =
    let both = or_parts (p x) (list_any p xs) none in
    position_cons p x (xs ++ y ∷ []) ∙ (λ i. cond (both.0 i) (Some 0) (option_map suc (position-last p xs y both.1 passes i)))

pub number-last : (made : List ResourceNo) (k : ResourceNo) → has made k ≡ false → number_of (made ++ k ∷ []) k ≡ record { 0 = length made }
number-last made k new = ap (λ (x : Option ℕ). record { 0 = unwrap_or x 0 }) (position-last (is_same k) made k new (self k))

---------------------------------------------------------------- one more

pub has-last : (ks : List ResourceNo) (k j : ResourceNo) → has (ks ++ k ∷ []) j ≡ (has ks j || (is_same j k || false))
has-last ks k j = list_any-append (is_same j) ks (k ∷ [])

pub has-before : (ks : List ResourceNo) (k j : ResourceNo) → has ks j ≡ true → has (ks ++ k ∷ []) j ≡ true
has-before ks k j h = has-last ks k j ∙ or_left (has ks j) (is_same j k || false) h

pub has-own : (ks : List ResourceNo) (k : ResourceNo) → has (ks ++ k ∷ []) k ≡ true
has-own ks k = has-last ks k k ∙ or_right (has ks k) (is_same k k || false) (or_left (is_same k k) false (self k))

-- each resource is one of the earlier ones, or the new one
pub data IsOneOf (ks : List ResourceNo) (k j : ResourceNo) : Type 0 where
  Before : has ks j ≡ true → IsOneOf ks k j
  Last : j ≡ k → IsOneOf ks k j

pub one-of : (ks : List ResourceNo) (k j : ResourceNo) → has (ks ++ k ∷ []) j ≡ true → IsOneOf ks k j
one-of ks k j h =
    elim (or_cases (has ks j) (is_same j k || false) (sym (has-last ks k j) ∙ h)) [
      | inl before ↦ Before before
      | inr last ↦ elim (or_cases (is_same j k) false last) [
        | inl same ↦ Last (λ i. record { 0 = eqb-true j.0 k.0 same i })
        | inr never ↦ absurd (false≢true never)
      ]
    ]

pub not-of : (ks : List ResourceNo) (k j : ResourceNo) → has (ks ++ k ∷ []) j ≡ false → (has ks j ≡ false) × (is_same j k ≡ false)
not-of ks k j h =
    let both = or_parts (has ks j) (is_same j k || false) (sym (has-last ks k j) ∙ h) in
    (both.0, (or_parts (is_same j k) false both.1).0)

pub distinct-last : (ks : List ResourceNo) (k : ResourceNo) → IsDistinct is_same ks → has ks k ≡ false → IsDistinct is_same (ks ++ k ∷ [])
unfolding IsDistinct
distinct-last [] k d new = (tt, tt)
distinct-last (j ∷ js) k d new =
    let both = or_parts (is_same k j) (has js k) new in
    (all-append (λ y. is_same j y ≡ false) js (k ∷ []) d.0 (turned j k ∙ both.0, tt), distinct-last js k d.1 both.1)

---------------------------------------------------------------- counting

all-numbers : (k : ResourceNo) (ks : List ResourceNo) → AllByRecursion (λ j. is_same k j ≡ false) ks → AllByRecursion (λ x. nat_eq k.0 x ≡ false) (map (λ (j : ResourceNo). j.0) ks)
all-numbers k [] all = tt
all-numbers k (j ∷ js) all = (all.0, all-numbers k js all.1)

distinct-numbers : (ks : List ResourceNo) → IsDistinct is_same ks → IsDistinct nat_eq (map (λ (j : ResourceNo). j.0) ks)
unfolding IsDistinct
distinct-numbers [] d = tt
distinct-numbers (k ∷ ks) d = (all-numbers k ks d.0, distinct-numbers ks d.1)

any-number : (ks : List ResourceNo) (q : ℕ) → list_any (nat_eq q) (map (λ (j : ResourceNo). j.0) ks) ≡ has ks (record { 0 = q })
any-number [] q = refl
any-number (k ∷ ks) q = ap (λ (b : Bool). nat_eq q k.0 || b) (any-number ks q)

-- different resources of a model are at most as many as the model has
pub few-resources : (s : Model) (ks : List ResourceNo) → IsDistinct is_same ks → ((k : ResourceNo) → has ks k ≡ true → has_resource (reading s) k ≡ true) → length ks ≤ length s.values.uris
few-resources s ks d there =
    let n = length s.values.uris in
    let few = length-le_from_distinct_below (map (λ (j : ResourceNo). j.0) ks) n (distinct-numbers ks d) (λ q h. below q n (there (record { 0 = q }) (sym (any-number ks q) ∙ h))) in
    let same = length-map ks (λ (j : ResourceNo). j.0) in
    omega (arith, few, same)
  where
    below : (q n : ℕ) → nat_lt q n ≡ true → q < n
    below q n h = grind (arith, nat_tests)

all-objects : (o : ObjectNo) (os : List ObjectNo) → AllByRecursion (λ p. same_object o p ≡ false) os → AllByRecursion (λ x. nat_eq o.0 x ≡ false) (map (λ (p : ObjectNo). p.0) os)
all-objects o [] all = tt
all-objects o (p ∷ ps) all = (all.0, all-objects o ps all.1)

distinct-objects : (os : List ObjectNo) → IsDistinct same_object os → IsDistinct nat_eq (map (λ (p : ObjectNo). p.0) os)
unfolding IsDistinct
distinct-objects [] d = tt
distinct-objects (o ∷ os) d = (all-objects o os d.0, distinct-objects os d.1)

any-object : (os : List ObjectNo) (q : ℕ) → list_any (nat_eq q) (map (λ (p : ObjectNo). p.0) os) ≡ list_any (same_object (record { 0 = q })) os
any-object [] q = refl
any-object (o ∷ os) q = ap (λ (b : Bool). nat_eq q o.0 || b) (any-object os q)

module _ (s : Model) (legal : IsLegal s) where
  inside-of : (k : ResourceNo) (o : ObjectNo) → list_any (same_object o) (objects_in (reading s) k) ≡ true → Contains (objects_in (reading s) k) o
  inside-of k o h = among-found (objects_in (reading s) k) o h

  -- an object of several resources is in one of them
  among-all : (ks : List ResourceNo) (o : ObjectNo) → list_any (same_object o) (flat_map (objects_in (reading s)) ks) ≡ true → (k : ResourceNo) × (has ks k ≡ true) × (list_any (same_object o) (objects_in (reading s) k) ≡ true)
  among-all [] o h = absurd (false≢true h)
  among-all (k ∷ ks) o h =
      elim (or_cases (list_any (same_object o) (objects_in (reading s) k)) (list_any (same_object o) (flat_map (objects_in (reading s)) ks)) (sym (list_any-append (same_object o) (objects_in (reading s) k) (flat_map (objects_in (reading s)) ks)) ∙ h)) [
        | inl here ↦ (k, or_left (is_same k k) (has ks k) (self k), here)
        | inr later ↦ let rest = among-all ks o later in (rest.0, or_right (is_same rest.0 k) (has ks rest.0) rest.1, rest.2)
      ]

  one-resource : (k j : ResourceNo) (o : ObjectNo) → list_any (same_object o) (objects_in (reading s) k) ≡ true → list_any (same_object o) (objects_in (reading s) j) ≡ true → is_same k j ≡ true
  one-resource k j o a b =
      eq-eqb k.0 j.0 (ap (λ (x : ResourceNo). x.0) (same_Some k j (sym (written-inside s legal k o (inside-of k o a)) ∙ written-inside s legal j o (inside-of j o b))))

  all-distinct : (ks : List ResourceNo) → IsDistinct is_same ks → IsDistinct same_object (flat_map (objects_in (reading s)) ks)
  unfolding IsDistinct
  all-distinct [] d = tt
  all-distinct (k ∷ ks) d =
      distinct-++ (objects_in (reading s) k) (flat_map (objects_in (reading s)) ks) (objects-apart s legal k) (all-distinct ks d.1)
      (λ o here later. let j = among-all ks o later in false≢true (sym (none-of ks j.0 d.0 j.1) ∙ one-resource k j.0 o here j.2))
    where
      none-of : (js : List ResourceNo) (j : ResourceNo) → AllByRecursion (λ y. is_same k y ≡ false) js → has js j ≡ true → is_same k j ≡ false
      none-of [] j all h = absurd (false≢true h)
      none-of (i ∷ is) j all h =
          elim (or_cases (is_same j i) (has is j) h) [
            | inl same ↦ ap (is_same k) (λ l. record { 0 = eqb-true j.0 i.0 same l }) ∙ all.0
            | inr later ↦ none-of is j all.1 later
          ]

  -- the objects of different resources are at most as many as were made
  pub few-objects : (ks : List ResourceNo) → IsDistinct is_same ks → length (flat_map (objects_in (reading s)) ks) ≤ length s.values.objects
  few-objects ks d =
      let os = flat_map (objects_in (reading s)) ks in
      let few = length-le_from_distinct_below (map (λ (p : ObjectNo). p.0) os) (length s.values.objects) (distinct-objects os (all-distinct ks d))
      (λ q h. let k = among-all ks (record { 0 = q }) (sym (any-object os q) ∙ h) in live-made s (record { 0 = q }) (live-inside s legal (record { 0 = q }) k.0 (written-inside s legal k.0 (record { 0 = q }) (inside-of k.0 (record { 0 = q }) k.2)))) in
      let same = length-map os (λ (p : ObjectNo). p.0) in
      omega (arith, few, same)
