-- No node has a feature twice, no node contains an object twice, and no subtree has one twice.
use Rattle.std.proofs.Common.{◌≡◌, ℕ, zero, suc, ◌+◌, Bool, true, false, cond, length, List, [], ◌∷◌, ◌++◌, filter, flat_map, Option, Some, None, unwrap_or, slice_get, eq-eqb, if◌then◌else◌, refl, sym, ap, ◌∙◌, subst, inl, inr, arith}
use Rattle.std.specs.Prelude.{option_and_then}
use Rattle.std.specs.List.{AllByRecursion, IsDistinct, list_any}
use Rattle.std.proofs.lemmas.Bool.{false≢true, or_cases, or_left, or_right, false_from_ne_true}
use Rattle.std.proofs.lemmas.List.Folds.{list_any-append}
use Rattle.std.proofs.lemmas.Option.{none-some, same_Some}
use Rattle.mm_types.specs.Lookups as lookups
use Rattle.mm_types.specs.Same.{same_feature, same_object}
use Rattle.mm_types.specs.Shapes.{is_containment, shape}
use Rattle.mm_types.specs.declared.numbers.ClassNo.{ClassNo}
use Rattle.mm_types.specs.declared.numbers.FeatureNo.{FeatureNo}
use Rattle.mm_types.specs.declared.numbers.ObjectNo.{ObjectNo}
use Rattle.mm_types.specs.declared.numbers.Node.{Node}
use Rattle.mm_types.specs.declared.numbers.Node.TheVariants as node
use Rattle.mm_types.specs.declared.value.Value.{Value}
use Rattle.mm_types.specs.declared.value.Value.TheVariants as value
use Rattle.mm_meta.proofs.FeatureListLemmas.{all-append, class-features-distinct, distinct-filter}
use Rattle.links.proofs.AboveLemmas.{above_held}
use Rattle.links.proofs.ClimbLemmas.{climb_step, climb_stop}
use Rattle.links.proofs.ForestLemmas.{climb_on}
use Rattle.links.proofs.PlaceLemmas.{same_node_if}
use Rattle.links.specs.Holders.{above, climb, holder}
use Rattle.links.specs.LegalSets as sets
use Rattle.links.specs.Links.{end}
use Rattle.models.specs.Legal.{IsLegal}
use Rattle.models.specs.Model.{Model, reading, values_at}
use Rattle.models.specs.Reading.{all_features_of, at_end, has_resource, objects_of}
use Rattle.containment.proofs.MemberLemmas.{all-among, flat_map-from, same-object}
use Rattle.containment.proofs.PartLemmas.{IsPart, all-objects, contains-itself, contains-reference, contents-parts, holder-at, values-linked}
use Rattle.containment.specs.Forest.{contents, node_subtree, subtree, tree}

---------------------------------------------------------------- lists

all-apart : (x : ObjectNo) (ys : List ObjectNo) → (list_any (same_object x) ys ≡ true → ⊥) → AllByRecursion (λ y. same_object x y ≡ false) ys
all-apart x [] h = tt
all-apart x (y ∷ ys) h = (false_from_ne_true (same_object x y) (λ q. h (or_left _ _ q)), all-apart x ys (λ q. h (or_right _ _ q)))

-- lists of different objects that share none
pub distinct-++ : (xs ys : List ObjectNo) → IsDistinct same_object xs → IsDistinct same_object ys
    → ((c : ObjectNo) → list_any (same_object c) xs ≡ true → list_any (same_object c) ys ≡ true → ⊥) → IsDistinct same_object (xs ++ ys)
unfolding IsDistinct
distinct-++ [] ys a b apart = b
distinct-++ (x ∷ xs) ys a b apart = (
  all-append (λ y. same_object x y ≡ false) xs ys a.0 (all-apart x ys (λ q. apart x (or_left _ _ (eq-eqb x.0 x.0 refl)) q)),
  distinct-++ xs ys a.1 b (λ c h. apart c (or_right _ _ h)),
)

module _ {X : Type 0} (same : X → X → Bool) (P : X → Type 0) (f : X → List ObjectNo) (each : (x : X) → P x → IsDistinct same_object (f x))
    (one : (x y : X) (c : ObjectNo) → P x → P y → list_any (same_object c) (f x) ≡ true → list_any (same_object c) (f y) ≡ true → same x y ≡ true) where
  in-no_other : (x : X) (c : ObjectNo) (ys : List X) → P x → AllByRecursion P ys → AllByRecursion (λ y. same x y ≡ false) ys
      → list_any (same_object c) (f x) ≡ true → list_any (same_object c) (flat_map f ys) ≡ true → ⊥
  in-no_other x c [] p all other h q = false≢true q
  in-no_other x c (y ∷ ys) p all other h q =
      elim (or_cases (list_any (same_object c) (f y)) (list_any (same_object c) (flat_map f ys)) (sym (list_any-append (same_object c) (f y) (flat_map f ys)) ∙ q)) [
        | inl here ↦ false≢true (sym other.0 ∙ one x y c p all.0 h here)
        | inr later ↦ in-no_other x c ys p all.1 other.1 h later
      ]

  distinct-flat_map : (xs : List X) → AllByRecursion P xs → IsDistinct same xs → IsDistinct same_object (flat_map f xs)
  unfolding IsDistinct
  distinct-flat_map [] all d = tt
  distinct-flat_map (x ∷ xs) all d = distinct-++ (f x) (flat_map f xs) (each x all.0) (distinct-flat_map xs all.1 d.1) (λ c h q. in-no_other x c xs all.0 all.1 d.0 h q)

all-pass : (p : FeatureNo → Bool) (fs : List FeatureNo) → AllByRecursion (λ f. p f ≡ true) (filter p fs)
all-pass p [] = tt
all-pass p (f ∷ fs) = elim (p f) as (λ b. p f ≡ b → AllByRecursion (λ g. p g ≡ true) (cond b (f ∷ filter p fs) (filter p fs))) [
  | true ↦ λ h. (h, all-pass p fs)
  | false ↦ λ _. all-pass p fs
] refl

all-both : (P Q : FeatureNo → Type 0) (fs : List FeatureNo) → AllByRecursion P fs → AllByRecursion Q fs → AllByRecursion (λ f. P f × Q f) fs
all-both P Q [] a b = tt
all-both P Q (f ∷ fs) a b = ((a.0, b.0), all-both P Q fs a.1 b.1)

---------------------------------------------------------------- features

-- no node has a feature twice
pub features-distinct : (s : Model) → IsLegal s → (n : Node) → IsDistinct same_feature (all_features_of (reading s) n)
unfolding IsDistinct
features-distinct s legal (node.Resource k) = elim (has_resource (reading s) k) as (λ b. IsDistinct same_feature (if b then lookups.contents s.metamodel ∷ [] else [])) [ true ↦ (tt, tt) | false ↦ tt ]
features-distinct s legal (node.Object o) = by ((reading s).class o)
  where
    by : (x : Option ClassNo) → IsDistinct same_feature (unwrap_or (option_and_then (lookups.features s.metamodel) x) [])
    by None = tt
    by (Some c) = class-features-distinct s.metamodel legal.metamodel c

---------------------------------------------------------------- contents

-- if each value occurs once, so does each object
pub objects-distinct : (vs : List Value) → sets.IsDistinct vs → IsDistinct same_object (objects_of vs)
unfolding IsDistinct
objects-distinct [] d = tt
objects-distinct (value.Object c ∷ vs) d = (
  all-objects (λ y. same_object c y ≡ false) vs (λ k y at. false_from_ne_true (same_object c y) (λ q.
      let again = d 0 (suc k) (value.Object c) refl (at ∙ ap (λ (x : ObjectNo). Some (value.Object x)) (sym (same-object c y q))) in
      absurd (omega (arith, again)))),
  objects-distinct vs (λ j k v a b. (let same = d (suc j) (suc k) v a b in omega (arith, same))),
)
objects-distinct (v ∷ vs) d = objects-distinct vs (λ j k w a b. (let same = d (suc j) (suc k) w a b in omega (arith, same)))

objects-from : (vs : List Value) (c : ObjectNo) → list_any (same_object c) (objects_of vs) ≡ true → (k : ℕ) × (slice_get vs k ≡ Some (value.Object c))
objects-from [] c h = absurd (false≢true h)
objects-from (value.Object o ∷ vs) c h = elim (or_cases (same_object c o) (list_any (same_object c) (objects_of vs)) h) [
  | inl here ↦ (0, ap (λ (x : ObjectNo). Some (value.Object x)) (sym (same-object c o here)))
  | inr later ↦ let r = objects-from vs c later in (suc r.0, r.1)
]
objects-from (v ∷ vs) c h = let r = objects-from vs c h in (suc r.0, r.1)

module _ (s : Model) (legal : IsLegal s) where
  abbrev IsHolding : FeatureNo → Type 0
  IsHolding f = is_containment s.metamodel f ≡ true

  end-distinct : (n : Node) (f : FeatureNo) → IsHolding f → IsDistinct same_object (objects_of (values_at s (at_end n f)))
  end-distinct n f h =
      let reference = contains-reference s.metamodel f f (contains-itself f (shape s.metamodel f).containing h) in
      subst (λ (vs : List Value). IsDistinct same_object (objects_of vs)) (sym (values-linked s (at_end n f) reference)) (objects-distinct (end s.links (at_end n f)) (legal.links.set.placed.distinct (at_end n f)))

  one-end : (n : Node) (f g : FeatureNo) (c : ObjectNo) → IsHolding f → IsHolding g → list_any (same_object c) (objects_of (values_at s (at_end n f))) ≡ true → list_any (same_object c) (objects_of (values_at s (at_end n g))) ≡ true → same_feature f g ≡ true
  one-end n f g c a b h q =
      let x = objects-from (values_at s (at_end n f)) c h in
      let y = objects-from (values_at s (at_end n g)) c q in
      let same = same_Some (at_end n f) (at_end n g) (sym (holder-at s legal n f a x.0 c x.1) ∙ holder-at s legal n g b y.0 c y.1) in
      eq-eqb f.0 g.0 (λ i. (same i).feature.0)

  -- no node contains an object twice
  pub contents-distinct : (n : Node) → IsDistinct same_object (contents (reading s) n)
  contents-distinct n =
      let m = s.metamodel in
      let fs = all_features_of (reading s) n in
      distinct-flat_map same_feature IsHolding (λ f. objects_of (values_at s (at_end n f))) (end-distinct n) (one-end n) (filter (is_containment m) fs)
      (all-pass (is_containment m) fs) (distinct-filter (is_containment m) fs (features-distinct s legal n))

  ---------------------------------------------------------------- trees

  -- after each step up there is one node fewer above
  climb-depth : (n : ℕ) (x y : Node) → climb s.links n x ≡ Some y → length (above s.links x) ≡ n + length (above s.links y)
  climb-depth zero x y h = let same = ap (λ (z : Node). length (above s.links z)) (same_Some x y h) in omega (arith, same)
  climb-depth (suc n) x y h =
      elim (holder s.links x) as (λ o. holder s.links x ≡ o → length (above s.links x) ≡ suc n + length (above s.links y)) [
        | None ↦ λ q. absurd (none-some y (sym (climb_stop s.links x n q) ∙ h))
        | Some e ↦ λ q.
            let one = ap length (above_held s.links legal.links.set legal.links.forest x e q) in
            let rest = climb-depth n e.node y (sym (climb_step s.links x e n q) ∙ h) in
            omega (arith, one, rest)
      ] refl

  part-climbs : (n : Node) (c : ObjectNo) → IsPart s n c → climb s.links 1 (node.Object c) ≡ Some n
  part-climbs n c part = climb_step s.links (node.Object c) part.by zero part.held ∙ ap Some part.here

  -- an object is reached from all objects of its tree
  tree-climbs : (k : ℕ) (o c : ObjectNo) → list_any (same_object c) (tree (reading s) k o) ≡ true → (n : ℕ) × (climb s.links n (node.Object c) ≡ Some (node.Object o))
  tree-climbs zero o c h = absurd (false≢true h)
  tree-climbs (suc k) o c h =
      let parts = contents (reading s) (node.Object o) in
      elim (or_cases (same_object c o) (list_any (same_object c) (flat_map (tree (reading s) k) parts)) h) [
        | inl here ↦ (0, ap (λ (x : ObjectNo). Some (node.Object x)) (same-object c o here))
        | inr later ↦
            let r = flat_map-from (tree (reading s) k) parts c later in
            let part = all-among (IsPart s (node.Object o)) parts r.from (contents-parts s legal (node.Object o)) r.among in
            let low = tree-climbs k r.from c r.gives in
            climb_on s.links low.0 1 (node.Object c) (node.Object r.from) (node.Object o) low.1 (part-climbs (node.Object o) r.from part)
      ]

  -- an object is not in the trees of its parts
  not-below : (k : ℕ) (o : ObjectNo) → list_any (same_object o) (flat_map (tree (reading s) k) (contents (reading s) (node.Object o))) ≡ true → ⊥
  not-below k o h =
      let parts = contents (reading s) (node.Object o) in
      let r = flat_map-from (tree (reading s) k) parts o h in
      let part = all-among (IsPart s (node.Object o)) parts r.from (contents-parts s legal (node.Object o)) r.among in
      let low = tree-climbs k r.from o r.gives in
      let down = climb-depth low.0 (node.Object o) (node.Object r.from) low.1 in
      let up = climb-depth 1 (node.Object r.from) (node.Object o) (part-climbs (node.Object o) r.from part) in
      omega (arith, down, up)

  -- the trees of two parts of a node have nothing in common
  one-tree : (k : ℕ) (n : Node) (p q c : ObjectNo) → IsPart s n p → IsPart s n q → list_any (same_object c) (tree (reading s) k p) ≡ true → list_any (same_object c) (tree (reading s) k q) ≡ true → same_object p q ≡ true
  one-tree k n p q c a b h g =
      let x = tree-climbs k p c h in
      let y = tree-climbs k q c g in
      let dx = climb-depth x.0 (node.Object c) (node.Object p) x.1 in
      let dy = climb-depth y.0 (node.Object c) (node.Object q) y.1 in
      let dp = climb-depth 1 (node.Object p) n (part-climbs n p a) in
      let dq = climb-depth 1 (node.Object q) n (part-climbs n q b) in
      let same : x.0 ≡ y.0 = omega (arith, dx, dy, dp, dq) in
      same_node_if (node.Object p) (node.Object q) (same_Some (node.Object p) (node.Object q) (sym x.1 ∙ ap (λ (m : ℕ). climb s.links m (node.Object c)) same ∙ y.1))

  -- no tree has an object twice
  pub tree-distinct : (k : ℕ) (o : ObjectNo) → IsDistinct same_object (tree (reading s) k o)
  unfolding IsDistinct
  tree-distinct zero o = tt
  tree-distinct (suc k) o =
      let parts = contents (reading s) (node.Object o) in (
        all-apart o (flat_map (tree (reading s) k) parts) (not-below k o),
        distinct-flat_map same_object (IsPart s (node.Object o)) (tree (reading s) k) (λ p part. tree-distinct k p) (one-tree k (node.Object o)) parts (contents-parts s legal (node.Object o)) (contents-distinct (node.Object o)),
      )

  pub subtree-distinct : (o : ObjectNo) → IsDistinct same_object (subtree (reading s) o)
  subtree-distinct o = tree-distinct (suc (length s.values.objects)) o

  -- no node has an object twice below it
  pub node-distinct : (n : Node) → IsDistinct same_object (node_subtree (reading s) n)
  node-distinct (node.Object o) = subtree-distinct o
  node-distinct (node.Resource k) =
      let n = node.Resource k in
      let levels = suc (length s.values.objects) in
      distinct-flat_map same_object (IsPart s n) (subtree (reading s)) (λ p part. subtree-distinct p) (one-tree levels n) (contents (reading s) n) (contents-parts s legal n) (contents-distinct n)
