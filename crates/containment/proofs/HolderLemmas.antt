-- The objects in an end of a containment are contained through it.
use Rattle.std.proofs.Common.{◌≡◌, false, if◌then◌else◌, ◌≢◌, ℕ, Option, Some, None, true, refl, sym, ap, ◌∙◌, subst, inl, inr}
use Rattle.std.specs.Prelude.{◌&&◌}
use Rattle.std.proofs.lemmas.Bool.{and_parts, eq-eqb, eqb-true, ne_eqb}
use Rattle.std.proofs.lemmas.Option.{none-some, some_pair_parts}
use Rattle.links.proofs.CutLemmas.{indexed_alone, indexed_at, indexed_near, indexed_out, indexed_proxy}
use Rattle.links.proofs.HolderLemmas.{test_some}
use Rattle.links.proofs.PlaceLemmas.{same_node_if}
use Rattle.links.proofs.PutLemmas.{cases_end}
use Rattle.links.specs.Holders.{far_holding, held_through, holding_end, is_far_node}
use Rattle.links.specs.LegalSets.{AreKinds, FarOfKind, HasTwoSides, IsOfKind, Kinds}
use Rattle.links.specs.Indexed.{far_value, indexed_value}
use Rattle.links.specs.declared.link.Far.TheVariants.{At, Alone, Proxy}
use Rattle.links.specs.declared.link.Far.{Far}
use Rattle.links.specs.declared.link.Link.{Link}
use Rattle.mm_types.specs.Same.{node_value, same_feature, same_node}
use Rattle.mm_types.specs.declared.end.End.{End}
use Rattle.mm_types.specs.declared.numbers.FeatureNo.{FeatureNo}
use Rattle.mm_types.specs.declared.numbers.Node.TheVariants as node
use Rattle.mm_types.specs.declared.numbers.Node.{Node}
use Rattle.mm_types.specs.declared.numbers.ObjectNo.{ObjectNo}
use Rattle.mm_types.specs.declared.value.Value.TheVariants as value
use Rattle.mm_types.specs.declared.value.Value.{Value}

-- both ends of a link agree on its containing feature
pub container_at : (m : Kinds) (ok : AreKinds m) (l : Link) (e : End) (p : ℕ × Value) → IsOfKind m l → indexed_value l e ≡ Some p → l.container ≡ m.container e.feature
container_at m ok l e p kind at = elim (cases_end l.end e) [
  | inl is ↦ kind.container ∙ (λ i. m.container (is i).feature)
  | inr ne ↦ by_far ne l.far refl
]
  where
    by_far : l.end ≢ e → (x : Far) → l.far ≡ x → l.container ≡ m.container e.feature
    by_far ne (At c j) h = elim (cases_end c e) [
      | inl is ↦ kind.container ∙ ok.one_container l.end.feature c.feature (subst (λ (x : Far). FarOfKind m l.end.feature x) h kind.far).0 ∙ (λ i. m.container (is i).feature)
      | inr ne_c ↦ absurd (none-some p (sym (indexed_out l c e j h ne ne_c) ∙ at))
    ]
    by_far ne (Alone n) h = absurd (none-some p (sym (indexed_alone l e n h ne) ∙ at))
    by_far ne (Proxy t) h = absurd (none-some p (sym (indexed_proxy l e t h ne) ∙ at))

node-is : (n : Node) (o : ObjectNo) → node_value n ≡ value.Object o → n ≡ node.Object o
node-is (node.Object a) o h = cc
node-is (node.Resource a) o h = cc

far-node : (x : Far) (o : ObjectNo) → far_value x ≡ value.Object o → is_far_node x (node.Object o) ≡ true
far-node (At d j) o h = same_node_if d.node (node.Object o) (node-is d.node o h)
far-node (Alone a) o h = same_node_if (node.Object a) (node.Object o) (node-is (node.Object a) o h)
far-node (Proxy t) o h = cc

-- an object that is in an end of the containing feature is held through it
pub holding_at : (l : Link) (e : End) (k : ℕ) (o : ObjectNo) → HasTwoSides l.end l.far → l.container ≡ Some e.feature → indexed_value l e ≡ Some (k, value.Object o) → holding_end l (node.Object o) ≡ Some e
holding_at l e k o two is at = ap (λ (c : Option FeatureNo). held_through c l (node.Object o)) is ∙ elim (cases_end l.end e) [
  | inl same ↦ near same
  | inr ne ↦ by_far ne l.far refl
]
  where
    near : l.end ≡ e → held_through (Some e.feature) l (node.Object o) ≡ Some e
    near same =
        let here = subst (λ (x : End). indexed_value l x ≡ Some (l.index, far_value l.far)) same (indexed_near l) in
        let f = eq-eqb l.end.feature.0 e.feature.0 (λ i. (same i).feature.0) in
        let w = far-node l.far o (some_pair_parts l.index k (far_value l.far) (value.Object o) (sym here ∙ at)).1 in
        rw (f, w) (ap Some same)

    by_far : l.end ≢ e → (x : Far) → l.far ≡ x → held_through (Some e.feature) l (node.Object o) ≡ Some e
    by_far ne (At c j) h = elim (cases_end c e) [
      | inl same ↦
          let out = (subst (λ (x : Far). HasTwoSides l.end x) h two).0 in
          let apart : l.end ≢ c = λ q. out (λ i. (sym q i).feature.0) in
          let here = subst (λ (x : End). indexed_value l x ≡ Some (j, node_value l.end.node)) same (indexed_at l c j h apart) in
          let w = same_node_if l.end.node (node.Object o) (node-is l.end.node o (some_pair_parts j k (node_value l.end.node) (value.Object o) (sym here ∙ at)).1) in
          let g = eq-eqb c.feature.0 e.feature.0 (λ i. (same i).feature.0) in
          let f = ne_eqb l.end.feature.0 e.feature.0 (λ q. out ((λ i. (same i).feature.0) ∙ sym q)) in
          rw (f, h, g, w) (ap Some same)
      | inr ne_c ↦ absurd (none-some _ (sym (indexed_out l c e j h ne ne_c) ∙ at))
    ]
    by_far ne (Alone a) h = absurd (none-some _ (sym (indexed_alone l e a h ne) ∙ at))
    by_far ne (Proxy t) h = absurd (none-some _ (sym (indexed_proxy l e t h ne) ∙ at))

-- a link holds through its containing feature
pub holding_end-feature : (l : Link) (x : Node) (d : End) → holding_end l x ≡ Some d → (h : FeatureNo) × (l.container ≡ Some h) × (d.feature.0 ≡ h.0)
holding_end-feature l x d at = through l.container refl at
  where
    far : (f : Far) (h : FeatureNo) → far_holding f h l.end.node x ≡ Some d → d.feature.0 ≡ h.0
    far (At c j) h q =
        let t = test_some (same_feature c.feature h && same_node l.end.node x) c d q in
        (λ i. (sym t.1 i).feature.0) ∙ eqb-true c.feature.0 h.0 (and_parts (same_feature c.feature h) (same_node l.end.node x) t.0).0
    far (Alone n) h q = absurd (none-some d q)
    far (Proxy t) h q = absurd (none-some d q)

    through : (c : Option FeatureNo) → l.container ≡ c → held_through c l x ≡ Some d → (h : FeatureNo) × (l.container ≡ Some h) × (d.feature.0 ≡ h.0)
    through None is q = absurd (none-some d q)
    through (Some h) is q = (
      h,
      is,
      elim (same_feature l.end.feature h) as (λ b. same_feature l.end.feature h ≡ b → (if b then (if is_far_node l.far x then Some l.end else None) else far_holding l.far h l.end.node x) ≡ Some d → d.feature.0 ≡ h.0) [
        | true ↦ λ b r. (let t = test_some (is_far_node l.far x) l.end d r in (λ i. (sym t.1 i).feature.0) ∙ eqb-true l.end.feature.0 h.0 b)
        | false ↦ λ b r. far l.far h r
      ] refl q,
    )
