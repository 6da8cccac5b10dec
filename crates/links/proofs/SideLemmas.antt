-- The two ends of a link agree: each has the other's node.
use Rattle.std.proofs.Common.{◌≡◌, ◌≢◌, ℕ, Some, refl, sym, ap, ◌∙◌, subst, inl, inr}
use Rattle.std.specs.List.{slice_get}
use Rattle.std.proofs.lemmas.Option.{none-some, same_Some, some_pair_parts}
use Rattle.links.proofs.CutLemmas.{indexed_alone, indexed_at, indexed_near, indexed_out, indexed_proxy}
use Rattle.links.proofs.PlaceLemmas.{not_proxy, same_node_value}
use Rattle.links.proofs.PutLemmas.{cases_end}
use Rattle.links.specs.LegalSets.{AreOfKind, FarOfKind, HasTwoSides, IsLegalSet, IsPlaced, Kinds}
use Rattle.links.specs.Links.{In, Links, end}
use Rattle.links.specs.Indexed.{far_value, indexed_value}
use Rattle.links.specs.Plans.{Has}
use Rattle.links.specs.declared.link.Far.TheVariants.{At, Alone, Proxy}
use Rattle.links.specs.declared.link.Far.{Far}
use Rattle.links.specs.declared.link.Link.{Link}
use Rattle.mm_types.specs.Same.{node_value}
use Rattle.mm_types.specs.declared.end.End.{End}
use Rattle.mm_types.specs.declared.numbers.FeatureNo.{FeatureNo}

-- the link joins features f and g, if it has a side in either: each is then on the other side
abbrev pub FarOf : Far → FeatureNo → FeatureNo → FeatureNo → Type 0
FarOf (At d j) e f g = ((e.0 ≡ f.0) → d.feature.0 ≡ g.0) × ((d.feature.0 ≡ f.0) → e.0 ≡ g.0)
FarOf (Alone o) e f g = (e.0 ≡ f.0) → ⊥
FarOf (Proxy t) e f g = Unit {0}

abbrev pub IsPaired : Link → FeatureNo → FeatureNo → Type 0
IsPaired l f g = FarOf l.far l.end.feature f g

-- f and g are opposites of each other, in every link of the set
abbrev pub ArePaired : Links → FeatureNo → FeatureNo → Type 0
ArePaired s f g = (l : Link) → In l s → IsPaired l f g

pub same_parts : (x y : End) → x.node ≡ y.node → x.feature.0 ≡ y.feature.0 → x ≡ y
same_parts x y n f = λ i. record { node = n i; feature = record { 0 = f i } }

module _ (l : Link) (x y : End) (k : ℕ) (two : HasTwoSides l.end l.far) (pair : IsPaired l x.feature y.feature) (at : indexed_value l x ≡ Some (k, node_value y.node)) where
  -- the link that has y's node at a position of x has x's node at a position of y
  far_at : (d : End) (j : ℕ) → l.far ≡ At d j → (m : ℕ) × (indexed_value l y ≡ Some (m, node_value x.node))
  far_at d j h =
      let sides = subst (λ (o : Far). HasTwoSides l.end o) h two in
      let p = subst (λ (o : Far). FarOf o l.end.feature x.feature y.feature) h pair in
      let ne : l.end ≢ d = λ same. sides.0 (λ i. (sym same i).feature.0) in
      elim (cases_end l.end x) [
        | inl same ↦
            let here = subst (λ (e : End). indexed_value l e ≡ Some (l.index, far_value l.far)) same (indexed_near l) in
            let v = same_node_value d.node y.node sides.2 (subst (λ (o : Far). far_value o ≡ node_value y.node) h (some_pair_parts l.index k (far_value l.far) (node_value y.node) (sym here ∙ at)).1) in
            let is = same_parts d y v (p.0 (λ i. (same i).feature.0)) in
            (j, subst (λ (e : End). indexed_value l e ≡ Some (j, node_value x.node)) is (indexed_at l d j h ne ∙ (λ i. Some (j, node_value (same i).node))))
        | inr other ↦ elim (cases_end d x) [
          | inl same ↦
              let here = subst (λ (e : End). indexed_value l e ≡ Some (j, node_value l.end.node)) same (indexed_at l d j h ne) in
              let v = same_node_value l.end.node y.node sides.1 (some_pair_parts j k (node_value l.end.node) (node_value y.node) (sym here ∙ at)).1 in
              let is = same_parts l.end y v (p.1 (λ i. (same i).feature.0)) in
              (l.index, subst (λ (e : End). indexed_value l e ≡ Some (l.index, node_value x.node)) is (indexed_near l ∙ ap (λ (o : Far). Some (l.index, far_value o)) h ∙ (λ i. Some (l.index, node_value (same i).node))))
          | inr out ↦ absurd (none-some _ (sym (indexed_out l d x j h other out) ∙ at))
        ]
      ]

  pub far_cases : (f : Far) → l.far ≡ f → (m : ℕ) × (indexed_value l y ≡ Some (m, node_value x.node))
  far_cases (At d j) h = far_at d j h
  far_cases (Alone n) h = elim (cases_end l.end x) [
    | inl same ↦ absurd (subst (λ (o : Far). FarOf o l.end.feature x.feature y.feature) h pair (λ i. (same i).feature.0))
    | inr ne ↦ absurd (none-some _ (sym (indexed_alone l x n h ne) ∙ at))
  ]
  far_cases (Proxy t) h = elim (cases_end l.end x) [
    | inl same ↦
        let here = subst (λ (e : End). indexed_value l e ≡ Some (l.index, far_value l.far)) same (indexed_near l) in
        absurd (not_proxy t y.node (subst (λ (o : Far). far_value o ≡ node_value y.node) h (some_pair_parts l.index k (far_value l.far) (node_value y.node) (sym here ∙ at)).1))
    | inr ne ↦ absurd (none-some _ (sym (indexed_proxy l x t h ne) ∙ at))
  ]

-- both ends agree: if y's node is in x's end, x's node is in y's
pub both_ends : (s : Links) (x y : End) → IsPlaced s → ArePaired s x.feature y.feature → (k : ℕ) → slice_get (end s x) k ≡ Some (node_value y.node) → (j : ℕ) × (slice_get (end s y) j ≡ Some (node_value x.node))
both_ends s x y placed paired k h =
    let st = (placed.ends x).only k (node_value y.node) h in
    let other = far_cases st.0 x y k (placed.sides st.0 st.1) (paired st.0 st.1) st.2 st.0.far refl in
    (other.0, (placed.ends y).has other.0 (node_value x.node) (st.0, st.1, other.1))

module _ (m : Kinds) where
  pub paired_far : (k : FeatureNo) (x : Far) (f g : FeatureNo) → m.opposite f ≡ Some g → FarOfKind m k x → FarOf x k f g
  paired_far k (At d j) f g o kind = (
    λ h. (let is : k ≡ f = λ i. record { 0 = h i } in ap (λ (y : FeatureNo). y.0) (same_Some d.feature g (sym kind.0 ∙ ap m.opposite is ∙ o))),
    λ h. (let is : d.feature ≡ f = λ i. record { 0 = h i } in ap (λ (y : FeatureNo). y.0) (same_Some k g (sym kind.1 ∙ ap m.opposite is ∙ o))),
  )
  paired_far k (Alone n) f g o kind = λ h. (let is : k ≡ f = λ i. record { 0 = h i } in none-some g (sym kind ∙ ap m.opposite is ∙ o))
  paired_far k (Proxy t) f g o kind = tt

  pub paired : (s : Links) (f g : FeatureNo) → AreOfKind m s → m.opposite f ≡ Some g → ArePaired s f g
  paired s f g kinds o l h = paired_far l.end.feature l.far f g o (kinds l h).far

  -- if an end has the node of its opposite end, that end has the node of the first end
  pub both_ends_agree : (s : Links) → IsLegalSet s → AreOfKind m s → (x y : End) → m.opposite x.feature ≡ Some y.feature → Has s x (node_value y.node) → Has s y (node_value x.node)
  both_ends_agree s legal kinds x y o h = both_ends s x y legal.placed (paired s x.feature y.feature kinds o) h.0 h.1
