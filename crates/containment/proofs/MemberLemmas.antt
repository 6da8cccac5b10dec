-- A subtree has exactly an object and all objects below it.
use Rattle.std.proofs.Common.{◌&&◌, if◌then◌else◌, ◌≡◌, ℕ, zero, suc, Bool, true, false, cond, length, List, [], ◌∷◌, filter, flat_map, Option, Some, None, unwrap_or, slice_get, nat_eq, eqb-true, eq-eqb, refl, sym, ap, ◌∙◌, subst, inl, inr}
use Rattle.std.specs.Prelude.{option_and_then}
use Rattle.std.specs.List.{AllByRecursion, list_any}
use Rattle.std.specs.Option.{option_map_or}
use Rattle.std.proofs.lemmas.Bool.{false≢true, or_cases, or_left, or_right}
use Rattle.std.proofs.lemmas.List.Folds.{list_any-append}
use Rattle.std.proofs.lemmas.Option.{none-some, same_Some}
use Rattle.mm_types.specs.Lookups as lookups
use Rattle.mm_types.specs.Same.{is_feature, same_feature, same_node, same_object}
use Rattle.mm_types.specs.Shapes.{is_containment, shape}
use Rattle.mm_types.specs.declared.numbers.ClassNo.{ClassNo}
use Rattle.mm_types.specs.declared.numbers.FeatureNo.{FeatureNo}
use Rattle.mm_types.specs.declared.numbers.ObjectNo.{ObjectNo}
use Rattle.mm_types.specs.declared.numbers.ResourceNo.{ResourceNo}
use Rattle.mm_types.specs.declared.numbers.Node.{Node}
use Rattle.mm_types.specs.declared.numbers.Node.TheVariants as node
use Rattle.mm_types.specs.declared.end.End.{End}
use Rattle.mm_types.specs.declared.value.Value.{Value}
use Rattle.mm_types.specs.declared.value.Value.TheVariants as value
use Rattle.links.proofs.AboveLemmas.{above-under, above_is, above_under, resource_top}
use Rattle.links.proofs.ClimbLemmas.{climb_step, climb_stop, under_holder, under_more}
use Rattle.links.proofs.HolderLemmas.{holder-some, indexed_held}
use Rattle.links.specs.Holders.{IsUnder, above, climb, holder}
use Rattle.links.specs.Links.{Links, end}
use Rattle.links.proofs.PlaceLemmas.{same_feature-true}
use Rattle.models.specs.Legal.{IsLegal, kinds_of}
use Rattle.models.specs.Model.{Model, reading, values_at}
use Rattle.models.specs.Reading.{Reading, all_features_of, at_end, has_feature, has_resource, is_within, objects_of}
use Rattle.containment.proofs.HolderLemmas.{container_at, holding_end-feature}
use Rattle.containment.proofs.PartLemmas.{IsPart, contains-reference, contents-parts, kinds-are, legal-at, values-linked}
use Rattle.containment.proofs.TreeLemmas.{subtree-levels}
use Rattle.containment.specs.Forest.{contents, is_node_among, node_subtree, subtree, tree}

---------------------------------------------------------------- lists

pub same-object : (x y : ObjectNo) → same_object x y ≡ true → x ≡ y
same-object x y h = let e = eqb-true x.0 y.0 h in λ i. record { 0 = e i }

in-flat_map : {X : Type 0} (same : X → X → Bool) → ((x y : X) → same x y ≡ true → x ≡ y) → (f : X → List ObjectNo) (xs : List X) (x : X) (c : ObjectNo)
    → list_any (same x) xs ≡ true → list_any (same_object c) (f x) ≡ true → list_any (same_object c) (flat_map f xs) ≡ true
in-flat_map same sound f [] x c h q = absurd (false≢true h)
in-flat_map same sound f (y ∷ ys) x c h q =
    list_any-append (same_object c) (f y) (flat_map f ys) ∙ elim (or_cases (same x y) (list_any (same x) ys) h) [
      | inl here ↦ or_left _ _ (ap (λ z. list_any (same_object c) (f z)) (sym (sound x y here)) ∙ q)
      | inr later ↦ or_right _ _ (in-flat_map same sound f ys x c later q)
    ]

-- the element that an object comes from
pub record IsFrom (f : ObjectNo → List ObjectNo) (xs : List ObjectNo) (c : ObjectNo) : Type 0 where
  pub from : ObjectNo
  pub among : list_any (same_object from) xs ≡ true
  pub gives : list_any (same_object c) (f from) ≡ true

pub flat_map-from : (f : ObjectNo → List ObjectNo) (xs : List ObjectNo) (c : ObjectNo) → list_any (same_object c) (flat_map f xs) ≡ true → IsFrom f xs c
flat_map-from f [] c h = absurd (false≢true h)
flat_map-from f (x ∷ xs) c h =
    elim (or_cases (list_any (same_object c) (f x)) (list_any (same_object c) (flat_map f xs)) (sym (list_any-append (same_object c) (f x) (flat_map f xs)) ∙ h)) [
      | inl here ↦ record { from = x; among = or_left _ _ (eq-eqb x.0 x.0 refl); gives = here }
      | inr later ↦ let r = flat_map-from f xs c later in record { from = r.from; among = or_right _ _ r.among; gives = r.gives }
    ]

pub all-among : (P : ObjectNo → Type 0) (xs : List ObjectNo) (c : ObjectNo) → AllByRecursion P xs → list_any (same_object c) xs ≡ true → P c
all-among P [] c all h = absurd (false≢true h)
all-among P (x ∷ xs) c all h = elim (or_cases (same_object c x) (list_any (same_object c) xs) h) [
  | inl here ↦ subst P (sym (same-object c x here)) all.0
  | inr later ↦ all-among P xs c all.1 later
]

in-filter : (p : FeatureNo → Bool) (fs : List FeatureNo) (f : FeatureNo) → list_any (same_feature f) fs ≡ true → p f ≡ true → list_any (same_feature f) (filter p fs) ≡ true
in-filter p [] f h passes = absurd (false≢true h)
in-filter p (g ∷ gs) f h passes =
    elim (p g) as (λ b. p g ≡ b → list_any (same_feature f) (cond b (g ∷ filter p gs) (filter p gs)) ≡ true) [
      | true ↦ λ q. elim (or_cases (same_feature f g) (list_any (same_feature f) gs) h) [
        | inl here ↦ or_left _ _ here
        | inr later ↦ or_right _ _ (in-filter p gs f later passes)
      ]
      | false ↦ λ q. elim (or_cases (same_feature f g) (list_any (same_feature f) gs) h) [
        | inl here ↦ absurd (false≢true (sym q ∙ ap p (sym (same_feature-true f g here)) ∙ passes))
        | inr later ↦ in-filter p gs f later passes
      ]
    ] refl

in-objects : (vs : List Value) (k : ℕ) (c : ObjectNo) → slice_get vs k ≡ Some (value.Object c) → list_any (same_object c) (objects_of vs) ≡ true
in-objects [] k c h = absurd (none-some _ h)
in-objects (v ∷ vs) zero c h = subst (λ (w : Value). list_any (same_object c) (objects_of (w ∷ vs)) ≡ true) (sym (same_Some v (value.Object c) h)) (or_left _ _ (eq-eqb c.0 c.0 refl))
in-objects (value.Object o ∷ vs) (suc k) c h = or_right _ _ (in-objects vs k c h)
in-objects (v ∷ vs) (suc k) c h = in-objects vs k c h

---------------------------------------------------------------- features

turned : (fs : List FeatureNo) (f : FeatureNo) → list_any (λ (g : FeatureNo). nat_eq g.0 f.0) fs ≡ true → list_any (same_feature f) fs ≡ true
turned [] f h = absurd (false≢true h)
turned (g ∷ gs) f h = elim (or_cases (nat_eq g.0 f.0) (list_any (λ (g : FeatureNo). nat_eq g.0 f.0) gs) h) [
  | inl here ↦ or_left _ _ (eq-eqb f.0 g.0 (sym (eqb-true g.0 f.0 here)))
  | inr later ↦ or_right _ _ (turned gs f later)
]

-- a feature that a node has is among all its features
pub own-feature : (r : Reading) (n : Node) (f : FeatureNo) → has_feature r n f ≡ true → list_any (same_feature f) (all_features_of r n) ≡ true
own-feature r (node.Resource k) f h = by (has_resource r k) h
  where
    by : (b : Bool) → (b && same_feature f (lookups.contents r.metamodel)) ≡ true → list_any (same_feature f) (if b then lookups.contents r.metamodel ∷ [] else []) ≡ true
    by true q = or_left _ _ q
    by false q = absurd (false≢true q)
own-feature r (node.Object o) f h = by (r.class o) h
  where
    listed : (x : Option (List FeatureNo)) → option_map_or (λ all. list_any (λ (g : FeatureNo). nat_eq g.0 f.0) all) x false ≡ true → list_any (same_feature f) (unwrap_or x []) ≡ true
    listed None q = absurd (false≢true q)
    listed (Some all) q = turned all f q

    by : (x : Option ClassNo) → option_map_or (λ c. lookups.has_feature r.metamodel c f) x false ≡ true
        → list_any (same_feature f) (unwrap_or (option_and_then (lookups.features r.metamodel) x) []) ≡ true
    by None q = absurd (false≢true q)
    by (Some c) q = listed (lookups.features r.metamodel c) q

---------------------------------------------------------------- chains

under-on : (s : Links) (n : ℕ) (x y z : Node) → climb s (suc n) x ≡ Some y → IsUnder s y z → IsUnder s x z
under-on s zero x y z h u =
    elim (holder s x) as (λ o. holder s x ≡ o → IsUnder s x z) [
      | None ↦ λ q. absurd (none-some y (sym (climb_stop s x zero q) ∙ h))
      | Some e ↦ λ q. under_more s x e z q (subst (λ (m : Node). IsUnder s m z) (sym (same_Some e.node y (sym (climb_step s x e zero q) ∙ h))) u)
    ] refl
under-on s (suc n) x y z h u =
    elim (holder s x) as (λ o. holder s x ≡ o → IsUnder s x z) [
      | None ↦ λ q. absurd (none-some y (sym (climb_stop s x (suc n) q) ∙ h))
      | Some e ↦ λ q. under_more s x e z q (under-on s n e.node y z (sym (climb_step s x e (suc n) q) ∙ h) u)
    ] refl

module _ (s : Model) (legal : IsLegal s) where
  -- an object whose holder is an end of a node is among the contents of the node
  held-contents : (c : ObjectNo) (e : End) → holder s.links (node.Object c) ≡ Some e → list_any (same_object c) (contents (reading s) e.node) ≡ true
  held-contents c e h =
      let m = s.metamodel in
      let l = holder-some s.links (node.Object c) e h in
      let at = indexed_held l.0 (node.Object c) e (legal.links.set.placed.sides l.0 l.1) l.2 in
      let there = (legal.links.set.placed.ends e).has at.0 (value.Object c) (l.0, l.1, at.1) in
      let own = own-feature (reading s) e.node e.feature (legal-at (reading s) e (end s.links e) at.0 (value.Object c) (legal.links.ends e) there).0 in
      let by = holding_end-feature l.0 (node.Object c) e l.2 in
      let whose : (shape m e.feature).containing ≡ Some by.0 = sym (container_at (kinds_of m) (kinds-are m legal.metamodel) l.0 e (at.0, value.Object c) (legal.links.kinds l.0 l.1) at.1) ∙ by.1 in
      let contains : is_containment m e.feature ≡ true = ap (is_feature e.feature) whose ∙ eq-eqb e.feature.0 by.0.0 by.2 in
      let listed = in-filter (is_containment m) (all_features_of (reading s) e.node) e.feature own contains in
      let values = ap (λ (vs : List Value). list_any (same_object c) (objects_of vs)) (values-linked s e (contains-reference m e.feature by.0 whose)) ∙ in-objects (end s.links e) at.0 c there in
      in-flat_map same_feature same_feature-true (λ f. objects_of (values_at s (at_end e.node f))) (filter (is_containment m) (all_features_of (reading s) e.node)) e.feature c listed values

  -- a tree with one more level has the parts of all its objects
  parts-in : (k : ℕ) (o p c : ObjectNo) → list_any (same_object p) (tree (reading s) k o) ≡ true → list_any (same_object c) (contents (reading s) (node.Object p)) ≡ true → list_any (same_object c) (tree (reading s) (suc k) o) ≡ true
  parts-in zero o p c h q = absurd (false≢true h)
  parts-in (suc k) o p c h q =
      let parts = contents (reading s) (node.Object o) in
      elim (or_cases (same_object p o) (list_any (same_object p) (flat_map (tree (reading s) k) parts)) h) [
        | inl here ↦
            let mine = ap (λ x. list_any (same_object c) (contents (reading s) (node.Object x))) (sym (same-object p o here)) ∙ q in
            or_right _ _ (in-flat_map same_object same-object (tree (reading s) (suc k)) parts c c mine (or_left _ _ (eq-eqb c.0 c.0 refl)))
        | inr later ↦
            let r = flat_map-from (tree (reading s) k) parts p later in
            or_right _ _ (in-flat_map same_object same-object (tree (reading s) (suc k)) parts r.from c r.among (parts-in k r.from p c r.gives q))
      ]

  -- a node at or below an object is below each node that the object is below
  below : (n : Node) (p c : ObjectNo) → IsUnder s.links (node.Object p) n → is_within (reading s) (node.Object p) (node.Object c) ≡ true → IsUnder s.links (node.Object c) n
  below n p c up q = elim (or_cases (same_object p c) (list_any (same_node (node.Object p)) (above s.links (node.Object c))) q) [
    | inl same ↦ subst (λ x. IsUnder s.links (node.Object x) n) (same-object p c same) up
    | inr low ↦ let u = above-under s.links (node.Object c) (node.Object p) low in under-on s.links u.0 (node.Object c) (node.Object p) n u.1 up
  ]

  -- all objects of a tree are at or below its object
  tree-within : (k : ℕ) (o c : ObjectNo) → list_any (same_object c) (tree (reading s) k o) ≡ true → is_within (reading s) (node.Object o) (node.Object c) ≡ true
  tree-within zero o c h = absurd (false≢true h)
  tree-within (suc k) o c h =
      let parts = contents (reading s) (node.Object o) in
      elim (or_cases (same_object c o) (list_any (same_object c) (flat_map (tree (reading s) k) parts)) h) [
        | inl here ↦ or_left _ _ (eq-eqb o.0 c.0 (sym (eqb-true c.0 o.0 here)))
        | inr later ↦
            let r = flat_map-from (tree (reading s) k) parts c later in
            let part = all-among (IsPart s (node.Object o)) parts r.from (contents-parts s legal (node.Object o)) r.among in
            let up = under_holder s.links (node.Object r.from) part.by (node.Object o) part.held part.here in
            or_right _ _ ((above_under s.links legal.links.set legal.links.forest (node.Object c) (node.Object o)).1 (below (node.Object o) r.from c up (tree-within k r.from c r.gives)))
      ]

  -- all nodes from which an object is reached are in its subtree
  reaches-in : (o : ObjectNo) (n : ℕ) (x : Node) → climb s.links n x ≡ Some (node.Object o) → is_node_among (subtree (reading s) o) x ≡ true
  reaches-in o zero x at = subst (λ (y : Node). is_node_among (subtree (reading s) o) y ≡ true) (sym (same_Some x (node.Object o) at)) (or_left _ _ (eq-eqb o.0 o.0 refl))
  reaches-in o (suc n) (node.Resource k) at = absurd (none-some _ (sym (climb_stop s.links (node.Resource k) n (resource_top s.links k legal.links.set)) ∙ at))
  reaches-in o (suc n) (node.Object c) at =
      elim (holder s.links (node.Object c)) as (λ q. holder s.links (node.Object c) ≡ q → list_any (same_object c) (subtree (reading s) o) ≡ true) [
        | None ↦ λ h. absurd (none-some _ (sym (climb_stop s.links (node.Object c) n h) ∙ at))
        | Some e ↦ λ h. up e.node (held-contents c e h) (reaches-in o n e.node (sym (climb_step s.links (node.Object c) e n h) ∙ at))
      ] refl
    where
      up : (p : Node) → list_any (same_object c) (contents (reading s) p) ≡ true → is_node_among (subtree (reading s) o) p ≡ true → list_any (same_object c) (subtree (reading s) o) ≡ true
      up (node.Object p) q h = ap (list_any (same_object c)) (sym (subtree-levels s legal o)) ∙ parts-in (suc (length s.values.objects)) o p c h q
      up (node.Resource k) q h = absurd (false≢true h)

  same-test : (a b : Bool) → (a ≡ true → b ≡ true) → (b ≡ true → a ≡ true) → a ≡ b
  same-test true b f g = sym (f refl)
  same-test false true f g = g refl
  same-test false false f g = refl

  -- a node is in the subtree of an object exactly if it is that object or below it
  pub subtree-has : (o : ObjectNo) (n : Node) → is_node_among (subtree (reading s) o) n ≡ is_within (reading s) (node.Object o) n
  subtree-has o (node.Resource k) =
      sym (ap (list_any (same_node (node.Object o))) (above_is s.links legal.links.set legal.links.forest (node.Resource k) ∙ ap (λ (x : Option End). option_map_or (λ (e : End). e.node ∷ above s.links e.node) x []) (resource_top s.links k legal.links.set)))
  subtree-has o (node.Object c) =
      let among = list_any (same_object c) (subtree (reading s) o) in
      same-test among (is_within (reading s) (node.Object o) (node.Object c)) (λ h. tree-within (suc (length s.values.objects)) o c h) (λ h. elim (or_cases (same_object o c) (list_any (same_node (node.Object o)) (above s.links (node.Object c))) h) [
        | inl here ↦ reaches-in o 0 (node.Object c) (ap (λ x. Some (node.Object x)) (sym (same-object o c here)))
        | inr low ↦ let u = above-under s.links (node.Object c) (node.Object o) low in reaches-in o (suc u.0) (node.Object c) u.1
      ])

  ---------------------------------------------------------------- resources

  -- an object in a resource is reached through one of its roots
  through-root : (k : ResourceNo) (n : ℕ) (x : Node) → climb s.links (suc n) x ≡ Some (node.Resource k)
      → (p : ObjectNo) × (climb s.links n x ≡ Some (node.Object p)) × (list_any (same_object p) (contents (reading s) (node.Resource k)) ≡ true)
  through-root k n (node.Resource j) at = absurd (none-some _ (sym (climb_stop s.links (node.Resource j) n (resource_top s.links j legal.links.set)) ∙ at))
  through-root k zero (node.Object c) at =
      elim (holder s.links (node.Object c)) as (λ q. holder s.links (node.Object c) ≡ q → (p : ObjectNo) × (Some (node.Object c) ≡ Some (node.Object p)) × (list_any (same_object p) (contents (reading s) (node.Resource k)) ≡ true)) [
        | None ↦ λ h. absurd (none-some _ (sym (climb_stop s.links (node.Object c) zero h) ∙ at))
        | Some e ↦ λ h. (
          c,
          refl,
          subst (λ (m : Node). list_any (same_object c) (contents (reading s) m) ≡ true) (same_Some e.node (node.Resource k) (sym (climb_step s.links (node.Object c) e zero h) ∙ at)) (held-contents c e h),
        )
      ] refl
  through-root k (suc n) (node.Object c) at =
      elim (holder s.links (node.Object c)) as (λ q. holder s.links (node.Object c) ≡ q → (p : ObjectNo) × (climb s.links (suc n) (node.Object c) ≡ Some (node.Object p)) × (list_any (same_object p) (contents (reading s) (node.Resource k)) ≡ true)) [
        | None ↦ λ h. absurd (none-some _ (sym (climb_stop s.links (node.Object c) (suc n) h) ∙ at))
        | Some e ↦ λ h. let r = through-root k n e.node (sym (climb_step s.links (node.Object c) e (suc n) h) ∙ at) in (r.0, climb_step s.links (node.Object c) e n h ∙ r.1, r.2)
      ] refl

  roots-within : (k : ResourceNo) (c : ObjectNo) → list_any (same_object c) (node_subtree (reading s) (node.Resource k)) ≡ true → list_any (same_node (node.Resource k)) (above s.links (node.Object c)) ≡ true
  roots-within k c h =
      let roots = contents (reading s) (node.Resource k) in
      let r = flat_map-from (subtree (reading s)) roots c h in
      let part = all-among (IsPart s (node.Resource k)) roots r.from (contents-parts s legal (node.Resource k)) r.among in
      let up = under_holder s.links (node.Object r.from) part.by (node.Resource k) part.held part.here in
      (above_under s.links legal.links.set legal.links.forest (node.Object c) (node.Resource k)).1 (below (node.Resource k) r.from c up (sym (subtree-has r.from (node.Object c)) ∙ r.gives))

  roots-reach : (k : ResourceNo) (c : ObjectNo) → list_any (same_node (node.Resource k)) (above s.links (node.Object c)) ≡ true → list_any (same_object c) (node_subtree (reading s) (node.Resource k)) ≡ true
  roots-reach k c h =
      let u = above-under s.links (node.Object c) (node.Resource k) h in
      let root = through-root k u.0 (node.Object c) u.1 in
      in-flat_map same_object same-object (subtree (reading s)) (contents (reading s) (node.Resource k)) root.0 c root.2 (reaches-in root.0 u.0 (node.Object c) root.1)

  -- an object is among all objects of a node exactly if it is that node or below it
  pub objects-below : (n : Node) (c : ObjectNo) → list_any (same_object c) (node_subtree (reading s) n) ≡ is_within (reading s) n (node.Object c)
  objects-below (node.Object o) c = subtree-has o (node.Object c)
  objects-below (node.Resource k) c =
      same-test (list_any (same_object c) (node_subtree (reading s) (node.Resource k))) (is_within (reading s) (node.Resource k) (node.Object c)) (roots-within k c) (roots-reach k c)
