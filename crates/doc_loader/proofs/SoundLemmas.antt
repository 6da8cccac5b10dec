-- Properties of the contents of a document that is read.
use Rattle.std.proofs.Common.{◌≡◌, ◌∙◌, ◌+◌, ◌<◌, ◌≤◌, ◌++◌, ℕ, zero, suc, List, [], ◌∷◌, Option, Some, None, true, false, length, map, refl, sym, ap, subst, inl, inr, arith}
use Rattle.std.specs.Prelude.{◌⊎◌, filter, filter_map, flat_map, slice_get}
use Rattle.std.proofs.Common.{Bool, cond}
use Rattle.std.specs.List.{AllByRecursion, cons_option, enumerate_from, list_any}
use Rattle.std.specs.Option.{option_map_or}
use Rattle.std.proofs.lemmas.Bool.{eqb-true, or_cases, or_parts}
use Rattle.std.proofs.lemmas.Option.{none-some, same_Some}
use Rattle.mm_types.specs.Resolved.{Metamodel}
use Rattle.mm_types.specs.Same.{same_feature}
use Rattle.mm_types.specs.Shapes.{Shape, shape}
use Rattle.mm_types.specs.declared.limits.TheConstants.{LIST_VALUES}
use Rattle.mm_types.specs.declared.numbers.FeatureNo.{FeatureNo}
use Rattle.mm_types.specs.declared.numbers.ObjectNo.{ObjectNo}
use Rattle.mm_types.specs.declared.value.Value.{Value}
use Rattle.mm_types.specs.declared.value.Value.TheVariants as value
use Rattle.links.specs.LegalSets.{AreKinds, IsDistinct}
use Rattle.models.specs.Legal.{kinds_of}
use Rattle.resource_docs.specs.Read.{values_in, values_under}
use Rattle.resource_docs.specs.declared.doc.Content.{Content}
use Rattle.resource_docs.specs.declared.doc.Doc.{Doc}
use Rattle.resource_docs.specs.declared.doc.DocObject.{DocObject}
use Rattle.doc_loader.proofs.GainLemmas.{got_left}
use Rattle.doc_loader.proofs.PairLemmas.{Apart, all-at}

-- a value of a feature of that shape: a proxy is under a reference that is no containment and whose opposite is none
abbrev pub IsSort : Shape → Value → Type 0
IsSort a (value.Object b) = a.is_reference ≡ true
IsSort a (value.Proxy t) = (a.is_reference ≡ true) × (a.containing ≡ None)
IsSort a _ = a.is_reference ≡ false

pub record IsSoundContent (m : Metamodel) (doc : Doc) (o : ObjectNo) (c : Content) : Type 0 where
  pub own : values_in doc o c.feature ≡ c.values
  pub plain : (h : FeatureNo) → (shape m c.feature).containing ≡ Some h → h ≡ c.feature
  pub few : length c.values ≤ LIST_VALUES
  pub distinct : (shape m c.feature).is_reference ≡ true → IsDistinct c.values
  pub sorts : AllByRecursion (IsSort (shape m c.feature)) c.values
  pub answered : (g : FeatureNo) (k : ℕ) (b : ObjectNo) → (shape m c.feature).containing ≡ None → (shape m c.feature).opposite ≡ Some g → slice_get c.values k ≡ Some (value.Object b)
      → (j : ℕ) × (slice_get (values_in doc b g) j ≡ Some (value.Object o))
  pub before : (h : FeatureNo) (k : ℕ) (b : ObjectNo) → (shape m c.feature).containing ≡ Some h → slice_get c.values k ≡ Some (value.Object b) → o.0 < b.0

abbrev pub AreSoundContents : Metamodel → Doc → ℕ × DocObject → Type 0
AreSoundContents m doc y = AllByRecursion (IsSoundContent m doc (record { 0 = y.0 })) y.1.contents

abbrev pub HaveOtherFeatures : Content → Content → Type 0
HaveOtherFeatures c d = same_feature c.feature d.feature ≡ false

-- a property of each content; each object is a root, or a part of one other object, once
pub record IsSound (m : Metamodel) (doc : Doc) : Type 0 where
  pub kinds : AreKinds (kinds_of m)
  pub contents : AllByRecursion (AreSoundContents m doc) (enumerate_from 0 doc.objects)
  pub others : (o : ℕ) (x : DocObject) → slice_get doc.objects o ≡ Some x → Apart HaveOtherFeatures x.contents
  pub once : (a c : ObjectNo) (f g h i : FeatureNo) (j k : ℕ) (b : ObjectNo) → (shape m f).containing ≡ Some h → (shape m g).containing ≡ Some i
      → slice_get (values_in doc a f) j ≡ Some (value.Object b) → slice_get (values_in doc c g) k ≡ Some (value.Object b) → (a ≡ c) × (f ≡ g)
  pub roots_distinct : (j k : ℕ) (b : ObjectNo) → slice_get doc.roots j ≡ Some b → slice_get doc.roots k ≡ Some b → j ≡ k
  pub root_apart : (a : ObjectNo) (f h : FeatureNo) (j k : ℕ) (b : ObjectNo) → (shape m f).containing ≡ Some h → slice_get (values_in doc a f) j ≡ Some (value.Object b) → slice_get doc.roots k ≡ Some b → ⊥
  pub few_roots : length doc.roots ≤ LIST_VALUES

---------------------------------------------------------------- lists

module _ {X : Type 0} where
  pub all-none : (p : X → Bool) (xs : List X) → list_any p xs ≡ false → AllByRecursion (λ x. p x ≡ false) xs
  all-none p [] h = tt
  all-none p (x ∷ xs) h = let r = or_parts (p x) (list_any p xs) h in (r.0, all-none p xs r.1)

  pub any-at : (p : X → Bool) (xs : List X) → list_any p xs ≡ true → (k : ℕ) × (x : X) × (slice_get xs k ≡ Some x) × (p x ≡ true)
  any-at p [] h = cc
  any-at p (x ∷ xs) h = elim (or_cases (p x) (list_any p xs) h) [
    | inl here ↦ (0, x, refl, here)
    | inr there ↦ let r = any-at p xs there in (suc r.0, r.1, r.2, r.3)
  ]

  pub append-at : (xs ys : List X) (k : ℕ) (x : X) → slice_get (xs ++ ys) k ≡ Some x → ((j : ℕ) × (slice_get xs j ≡ Some x)) ⊎ ((j : ℕ) × (slice_get ys j ≡ Some x))
  append-at [] ys k x h = inr (k, h)
  append-at (z ∷ xs) ys zero x h = inl (0, h)
  append-at (z ∷ xs) ys (suc k) x h = elim (append-at xs ys k x h) [ inl r ↦ inl (suc r.0, r.1) | inr r ↦ inr r ]

  pub got_right : (xs ys : List X) (k : ℕ) (x : X) → slice_get ys k ≡ Some x → (j : ℕ) × (slice_get (xs ++ ys) j ≡ Some x)
  got_right [] ys k x h = (k, h)
  got_right (z ∷ xs) ys k x h = let r = got_right xs ys k x h in (suc r.0, r.1)

  -- a list with an element that passes a test has a first one
  pub first-of : (xs : List X) (k : ℕ) (x : X) → slice_get xs k ≡ Some x → (y : X) × (slice_get xs 0 ≡ Some y)
  first-of [] k x h = absurd (none-some x h)
  first-of (z ∷ zs) k x h = (z, refl)

  filter-first : (p : X → Bool) (z : X) (ys xs : List X) (k : ℕ) (x : X) → p z ≡ true → slice_get (z ∷ ys) k ≡ Some x
      → ((i : ℕ) → slice_get ys i ≡ Some x → (j : ℕ) × (slice_get xs j ≡ Some x) × (p x ≡ true)) → (j : ℕ) × (slice_get (z ∷ xs) j ≡ Some x) × (p x ≡ true)
  filter-first p z ys xs zero x q at rest = (0, at, subst (λ (y : X). p y ≡ true) (same_Some z x at) q)
  filter-first p z ys xs (suc k) x q at rest = let r = rest k at in (suc r.0, r.1, r.2)

  pub filter-at : (p : X → Bool) (xs : List X) (k : ℕ) (x : X) → slice_get (filter p xs) k ≡ Some x → (j : ℕ) × (slice_get xs j ≡ Some x) × (p x ≡ true)
  filter-at p [] k x h = absurd (none-some x h)
  filter-at p (z ∷ xs) k x h =
      elim (p z) as (λ b. p z ≡ b → slice_get (cond b (z ∷ filter p xs) (filter p xs)) k ≡ Some x → (j : ℕ) × (slice_get (z ∷ xs) j ≡ Some x) × (p x ≡ true)) [
        | true ↦ λ q at. filter-first p z (filter p xs) xs k x q at (λ i r. filter-at p xs i x r)
        | false ↦ λ q at. let r = filter-at p xs k x at in (suc r.0, r.1, r.2)
      ] refl h

  pub apart-one : (R : X → X → Type 0) (xs : List X) (j k : ℕ) (x y : X) → Apart R xs → slice_get xs j ≡ Some x → slice_get xs k ≡ Some y → (R x y → ⊥) → (R y x → ⊥) → j ≡ k
  apart-one R [] j k x y a p q one other = absurd (none-some x p)
  apart-one R (z ∷ xs) zero zero x y a p q one other = refl
  apart-one R (z ∷ xs) zero (suc k) x y a p q one other = absurd (one (subst (λ (w : X). R w y) (same_Some z x p) (all-at (R z) xs k y a.0 q)))
  apart-one R (z ∷ xs) (suc j) zero x y a p q one other = absurd (other (subst (λ (w : X). R w x) (same_Some z y q) (all-at (R z) xs j x a.0 p)))
  apart-one R (z ∷ xs) (suc j) (suc k) x y a p q one other = ap suc (apart-one R xs j k x y a.1 p q one other)

module _ {X Y : Type 0} where
  pub map-at : (f : X → Y) (xs : List X) (k : ℕ) (y : Y) → slice_get (map f xs) k ≡ Some y → (x : X) × (slice_get xs k ≡ Some x) × (f x ≡ y)
  map-at f [] k y h = absurd (none-some y h)
  map-at f (x ∷ xs) zero y h = (x, refl, same_Some (f x) y h)
  map-at f (x ∷ xs) (suc k) y h = map-at f xs k y h

  pub at-map : (f : X → Y) (xs : List X) (k : ℕ) (x : X) → slice_get xs k ≡ Some x → slice_get (map f xs) k ≡ Some (f x)
  at-map f [] k x h = absurd (none-some x h)
  at-map f (z ∷ zs) zero x h = ap (λ (y : X). Some (f y)) (same_Some z x h)
  at-map f (z ∷ zs) (suc k) x h = at-map f zs k x h

  pub flat_map-at : (f : X → List Y) (xs : List X) (k : ℕ) (y : Y) → slice_get (flat_map f xs) k ≡ Some y → (i : ℕ) × (x : X) × (j : ℕ) × (slice_get xs i ≡ Some x) × (slice_get (f x) j ≡ Some y)
  flat_map-at f [] k y h = absurd (none-some y h)
  flat_map-at f (x ∷ xs) k y h = elim (append-at (f x) (flat_map f xs) k y h) [
    | inl r ↦ (0, x, r.0, refl, r.1)
    | inr r ↦ let s = flat_map-at f xs r.0 y r.1 in (suc s.0, s.1, s.2, s.3, s.4)
  ]

  pub at-flat_map : (f : X → List Y) (xs : List X) (i j : ℕ) (x : X) (y : Y) → slice_get xs i ≡ Some x → slice_get (f x) j ≡ Some y → (k : ℕ) × (slice_get (flat_map f xs) k ≡ Some y)
  at-flat_map f [] i j x y a b = absurd (none-some x a)
  at-flat_map f (z ∷ xs) zero j x y a b = (j, got_left (f z) (flat_map f xs) j y (subst (λ (w : X). slice_get (f w) j ≡ Some y) (sym (same_Some z x a)) b))
  at-flat_map f (z ∷ xs) (suc i) j x y a b = let r = at-flat_map f xs i j x y a b in got_right (f z) (flat_map f xs) r.0 y r.1

  first-more : (h : X → Option Y) (o : Option Y) (ys : List Y) (k : ℕ) (y : Y) → slice_get (cons_option o ys) k ≡ Some y → (o ≡ Some y) ⊎ ((j : ℕ) × (slice_get ys j ≡ Some y))
  first-more h None ys k y at = inr (k, at)
  first-more h (Some z) ys zero y at = inl at
  first-more h (Some z) ys (suc k) y at = inr (k, at)

  pub filter_map-at : (h : X → Option Y) (xs : List X) (k : ℕ) (y : Y) → slice_get (filter_map h xs) k ≡ Some y → (i : ℕ) × (x : X) × (slice_get xs i ≡ Some x) × (h x ≡ Some y)
  filter_map-at h [] k y at = absurd (none-some y at)
  filter_map-at h (x ∷ xs) k y at = elim (first-more h (h x) (filter_map h xs) k y at) [
    | inl is ↦ (0, x, refl, is)
    | inr r ↦ let s = filter_map-at h xs r.0 y r.1 in (suc s.0, s.1, s.2, s.3)
  ]

  pub at-filter_map : (h : X → Option Y) (xs : List X) (i : ℕ) (x : X) (y : Y) → slice_get xs i ≡ Some x → h x ≡ Some y → (k : ℕ) × (slice_get (filter_map h xs) k ≡ Some y)
  at-filter_map h [] i x y a b = absurd (none-some x a)
  at-filter_map h (z ∷ xs) zero x y a b = (0, ap (λ (o : Option Y). slice_get (cons_option o (filter_map h xs)) 0) (ap h (same_Some z x a) ∙ b))
  at-filter_map h (z ∷ xs) (suc i) x y a b =
      let r = at-filter_map h xs i x y a b in
      elim (h z) as (λ o. (k : ℕ) × (slice_get (cons_option o (filter_map h xs)) k ≡ Some y)) [ None ↦ r | Some w ↦ (suc r.0, r.1) ]

-- the element at an index has that number
pub at-numbered : {X : Type 0} (xs : List X) (i k : ℕ) (x : X) → slice_get xs k ≡ Some x → (n : ℕ) × (n ≡ i + k) × (slice_get (enumerate_from i xs) k ≡ Some (n, x))
at-numbered [] i k x h = absurd (none-some x h)
at-numbered {X = X} (z ∷ xs) i zero x h = (i, omega arith, ap (λ (y : X). Some (i, y)) (same_Some z x h))
at-numbered (z ∷ xs) i (suc k) x h = let r = at-numbered xs (i + 1) k x h in let n = r.1 in (r.0, omega (arith, n), r.2)

---------------------------------------------------------------- by object and feature

under-at : (f : FeatureNo) (c : Content) (j : ℕ) (v : Value) → slice_get (cond (same_feature f c.feature) c.values []) j ≡ Some v → (c.feature ≡ f) × (slice_get c.values j ≡ Some v)
under-at f c j v h =
    elim (same_feature f c.feature) as (λ b. same_feature f c.feature ≡ b → slice_get (cond b c.values []) j ≡ Some v → (c.feature ≡ f) × (slice_get c.values j ≡ Some v)) [
      | true ↦ λ q at. (let e = eqb-true f.0 c.feature.0 q in λ i. record { 0 = sym e i }, at)
      | false ↦ λ q at. absurd (none-some v at)
    ] refl h

-- the values under a feature of an object are found by the object's number
pub object-there : (doc : Doc) (o : ObjectNo) (f : FeatureNo) (k : ℕ) (v : Value) → slice_get (values_in doc o f) k ≡ Some v → (x : DocObject) × (slice_get doc.objects o.0 ≡ Some x) × (slice_get (values_under x f) k ≡ Some v)
object-there doc o f k v h =
    elim (slice_get doc.objects o.0) as (λ y. slice_get doc.objects o.0 ≡ y → slice_get (option_map_or (λ x. values_under x f) y []) k ≡ Some v → (x : DocObject) × (slice_get doc.objects o.0 ≡ Some x) × (slice_get (values_under x f) k ≡ Some v)) [
      | None ↦ λ q at. absurd (none-some v at)
      | Some x ↦ λ q at. (x, q, at)
    ] refl h

pub there-object : (doc : Doc) (o : ObjectNo) (f : FeatureNo) (x : DocObject) (k : ℕ) (v : Value) → slice_get doc.objects o.0 ≡ Some x → slice_get (values_under x f) k ≡ Some v → slice_get (values_in doc o f) k ≡ Some v
there-object doc o f x k v at h = ap (λ (y : Option DocObject). slice_get (option_map_or (λ x. values_under x f) y []) k) at ∙ h

-- an object of the document and one of its contents, by numbers
pub record IsThere (doc : Doc) (o : ObjectNo) (c : Content) : Type 0 where
  pub object : DocObject
  pub at : slice_get doc.objects o.0 ≡ Some object
  pub index : ℕ
  pub in_object : slice_get object.contents index ≡ Some c

-- a value under a feature of an object is in a content of the object
pub value-there : (doc : Doc) (o : ObjectNo) (f : FeatureNo) (k : ℕ) (v : Value) → slice_get (values_in doc o f) k ≡ Some v → (c : Content) × IsThere doc o c × (c.feature ≡ f) × ((j : ℕ) × (slice_get c.values j ≡ Some v))
value-there doc o f k v h =
    let x = object-there doc o f k v h in
    let r = flat_map-at (λ c. cond (same_feature f c.feature) c.values []) x.0.contents k v x.2 in
    let u = under-at f r.1 r.2 v r.4 in
    (r.1, record { object = x.0; at = x.1; index = r.0; in_object = r.3 }, u.0, (r.2, u.1))

module _ (m : Metamodel) (doc : Doc) (sound : IsSound m doc) where
  numbered-sound : (n : ℕ) (o : ObjectNo) (c : Content) → n ≡ o.0 → IsSoundContent m doc (record { 0 = n }) c → IsSoundContent m doc o c
  numbered-sound n o c is s = subst (λ (x : ℕ). IsSoundContent m doc (record { 0 = x }) c) is s

  pub content-sound : (o : ObjectNo) (c : Content) → IsThere doc o c → IsSoundContent m doc o c
  content-sound o c there =
      let r = at-numbered doc.objects 0 o.0 there.object there.at in
      let n = r.1 in
      let all = all-at (AreSoundContents m doc) (enumerate_from 0 doc.objects) o.0 (r.0, there.object) sound.contents r.2 in
      numbered-sound r.0 o c (omega (arith, n)) (all-at (IsSoundContent m doc (record { 0 = r.0 })) there.object.contents there.index c all there.in_object)

  -- the content of an object whose values are under a feature
  pub record HasContent (o : ObjectNo) (f : FeatureNo) : Type 0 where
    pub content : Content
    pub there : IsThere doc o content
    pub of : content.feature ≡ f
    pub values : values_in doc o f ≡ content.values
    pub is_sound : IsSoundContent m doc o content

  pub has-content : (o : ObjectNo) (f : FeatureNo) (k : ℕ) (v : Value) → slice_get (values_in doc o f) k ≡ Some v → HasContent o f
  has-content o f k v h =
      let r = value-there doc o f k v h in
      let s = content-sound o r.0 r.1 in
      record { content = r.0; there = r.1; of = r.2; values = ap (values_in doc o) (sym r.2) ∙ s.own; is_sound = s }
