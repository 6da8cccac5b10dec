-- The node that a new link contains is the one that `node_contained` names.
use Rattle.std.proofs.Common.{◌≡◌, ℕ, length, true, false, ltb, Option, Some, None, if◌then◌else◌, refl, sym, ap, ◌∙◌, subst}
use Rattle.std.specs.Prelude.{◌&&◌}
use Rattle.std.proofs.lemmas.Bool.{and_parts, eqb-true, eqb-false, eq-eqb, ne_eqb}
use Rattle.std.proofs.lemmas.Option.{none-some}
use Rattle.links.proofs.HolderLemmas.{test_some}
use Rattle.links.proofs.PutLemmas.{IsApart}
use Rattle.links.specs.Holders.{holder, holding_end, node_contained}
use Rattle.links.specs.Links.{Links, end, far_end, new_link}
use Rattle.links.specs.Plans.{IsFree}
use Rattle.links.specs.declared.link.Far.TheVariants.{At, Alone}
use Rattle.mm_types.proofs.SameLemmas.{same_node-true}
use Rattle.mm_types.specs.Same.{same_feature, same_node}
use Rattle.mm_types.specs.declared.end.End.{End}
use Rattle.mm_types.specs.declared.numbers.FeatureNo.{FeatureNo}
use Rattle.mm_types.specs.declared.numbers.Node.TheVariants as node
use Rattle.mm_types.specs.declared.numbers.Node.{Node}
use Rattle.mm_types.specs.declared.numbers.ObjectNo.{ObjectNo}

-- the containing feature is e's own, and the object becomes contained
contained_object : (e : End) (o : ObjectNo) (h : FeatureNo) (x : Node) → same_feature e.feature h ≡ true → same_node (node.Object o) x ≡ true → node_contained e o (Some h) ≡ Some x
contained_object e o h x f n =
    let back = eq-eqb h.0 e.feature.0 (sym (eqb-true e.feature.0 h.0 f)) in
    rw back (ap Some (same_node-true (node.Object o) x n))

-- the containing feature is the other one, and e's node becomes contained
contained_node : (e : End) (o : ObjectNo) (h : FeatureNo) (x : Node) → ((h.0 ≡ e.feature.0) → ⊥) → same_node e.node x ≡ true → node_contained e o (Some h) ≡ Some x
contained_node e o h x f n =
    let other = ne_eqb h.0 e.feature.0 f in
    rw other (ap Some (same_node-true e.node x n))

not_own : (e : End) (h : FeatureNo) → same_feature e.feature h ≡ false → (h.0 ≡ e.feature.0) → ⊥
not_own e h q is = eqb-false e.feature.0 h.0 q (sym is)

alone_contained : (e : End) (i : ℕ) (o : ObjectNo) (c : Option FeatureNo) (x : Node) (d : End) → holding_end (record { end = e; index = i; far = Alone o; container = c }) x ≡ Some d → node_contained e o c ≡ Some x
alone_contained e i o None x d at = absurd (none-some d at)
alone_contained e i o (Some h) x d at =
    elim (same_feature e.feature h) as (λ b. same_feature e.feature h ≡ b → (if b then (if same_node (node.Object o) x then Some e else None) else None) ≡ Some d → node_contained e o (Some h) ≡ Some x) [
      | true ↦ λ q p. contained_object e o h x q (test_some (same_node (node.Object o) x) e d p).0
      | false ↦ λ q p. absurd (none-some d p)
    ] refl at

-- a link that is written from e
near_contained : (e : End) (i : ℕ) (o : ObjectNo) (g : FeatureNo) (j : ℕ) (c : Option FeatureNo) (x : Node) (d : End) → holding_end (record { end = e; index = i; far = At (far_end o g) j; container = c }) x ≡ Some d → node_contained e o c ≡ Some x
near_contained e i o g j None x d at = absurd (none-some d at)
near_contained e i o g j (Some h) x d at =
    elim (same_feature e.feature h) as (λ b. same_feature e.feature h ≡ b → (if b then (if same_node (node.Object o) x then Some e else None) else (if same_feature g h && same_node e.node x then Some (far_end o g) else None)) ≡ Some d → node_contained e o (Some h) ≡ Some x) [
      | true ↦ λ q p. contained_object e o h x q (test_some (same_node (node.Object o) x) e d p).0
      | false ↦ λ q p. contained_node e o h x (not_own e h q) (and_parts (same_feature g h) (same_node e.node x) (test_some (same_feature g h && same_node e.node x) (far_end o g) d p).0).1
    ] refl at

-- a link that is written from the far end
far_contained : (e : End) (i : ℕ) (o : ObjectNo) (g : FeatureNo) (j : ℕ) (c : Option FeatureNo) (x : Node) (d : End) → ((g.0 ≡ e.feature.0) → ⊥) → holding_end (record { end = far_end o g; index = j; far = At e i; container = c }) x ≡ Some d → node_contained e o c ≡ Some x
far_contained e i o g j None x d apart at = absurd (none-some d at)
far_contained e i o g j (Some h) x d apart at =
    elim (same_feature g h) as (λ b. same_feature g h ≡ b → (if b then (if same_node e.node x then Some (far_end o g) else None) else (if same_feature e.feature h && same_node (node.Object o) x then Some e else None)) ≡ Some d → node_contained e o (Some h) ≡ Some x) [
      | true ↦ λ q p. contained_node e o h x (λ is. apart (eqb-true g.0 h.0 q ∙ is)) (test_some (same_node e.node x) (far_end o g) d p).0
      | false ↦ λ q p.
          let both = and_parts (same_feature e.feature h) (same_node (node.Object o) x) (test_some (same_feature e.feature h && same_node (node.Object o) x) e d p).0 in
          contained_object e o h x both.0 both.1
    ] refl at

new_contained : (s : Links) (e : End) (i : ℕ) (o : ObjectNo) (g c : Option FeatureNo) (x : Node) (d : End) → IsApart e g → holding_end (new_link s e i o g c) x ≡ Some d → node_contained e o c ≡ Some x
new_contained s e i o None c x d apart at = alone_contained e i o c x d at
new_contained s e i o (Some g) c x d apart at =
    let j = length (end s (far_end o g)) in
    elim (ltb e.feature.0 g.0) as (λ b. holding_end (if b then record { end = e; index = i; far = At (far_end o g) j; container = c } else record { end = far_end o g; index = j; far = At e i; container = c }) x ≡ Some d → node_contained e o c ≡ Some x) [
      | true ↦ λ p. near_contained e i o g j c x d p
      | false ↦ λ p. far_contained e i o g j c x d apart.0 p
    ] at

-- if the node that becomes contained has no holder, then no node that the new link contains has one
pub free_new : (s : Links) (e : End) (i : ℕ) (o : ObjectNo) (g c : Option FeatureNo) → IsApart e g → IsFree s (node_contained e o c) → (x : Node) (d : End) → holding_end (new_link s e i o g c) x ≡ Some d → holder s x ≡ None
free_new s e i o g c apart free x d at = subst (λ (n : Option Node). IsFree s n) (new_contained s e i o g c x d apart at) free
