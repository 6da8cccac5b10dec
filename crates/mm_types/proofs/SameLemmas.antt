-- Nodes and ends that the tests find the same are equal, and each is found the same as itself.
use Rattle.std.proofs.Common.{◌≡◌, ℕ, true, ◌∙◌, refl, ap, eqb-true, eq-eqb}
use Rattle.std.proofs.lemmas.Bool.{and_from, and_parts}
use Rattle.mm_types.specs.Same.{same_end, same_feature, same_node}
use Rattle.mm_types.specs.declared.end.End.{End}
use Rattle.mm_types.specs.declared.numbers.Node.{Node}
use Rattle.mm_types.specs.declared.numbers.Node.TheVariants as node
use Rattle.mm_types.specs.declared.numbers.ObjectNo.{ObjectNo}
use Rattle.mm_types.specs.declared.numbers.ResourceNo.{ResourceNo}

same_object-true : (x y : ObjectNo) → x.0 ≡ y.0 → node.Object x ≡ node.Object y
same_object-true x y e = ap (λ (k : ℕ). node.Object (record { 0 = k })) e

same_resource-true : (x y : ResourceNo) → x.0 ≡ y.0 → node.Resource x ≡ node.Resource y
same_resource-true x y e = ap (λ (k : ℕ). node.Resource (record { 0 = k })) e

pub same_node-true : (x y : Node) → same_node x y ≡ true → x ≡ y
same_node-true (node.Object x) (node.Object y) h = same_object-true x y (eqb-true x.0 y.0 h)
same_node-true (node.Object x) (node.Resource y) h = cc
same_node-true (node.Resource x) (node.Object y) h = cc
same_node-true (node.Resource x) (node.Resource y) h = same_resource-true x y (eqb-true x.0 y.0 h)

pub same_node-self : (x : Node) → same_node x x ≡ true
same_node-self (node.Object x) = eq-eqb x.0 x.0 refl
same_node-self (node.Resource x) = eq-eqb x.0 x.0 refl

at_node : End → Node → End
at_node d n = record { node = n; feature = d.feature }

at_feature : End → ℕ → End
at_feature d k = record { node = d.node; feature = record { 0 = k } }

pub same_end-true : (d e : End) → same_end d e ≡ true → d ≡ e
unfolding at_node at_feature
same_end-true d e h =
    let both = and_parts (same_node d.node e.node) (same_feature d.feature e.feature) h in
    ap (at_node d) (same_node-true d.node e.node both.0) ∙ ap (at_feature e) (eqb-true d.feature.0 e.feature.0 both.1)

pub same_end-self : (d : End) → same_end d d ≡ true
same_end-self d = and_from (same_node d.node d.node) (same_feature d.feature d.feature) (same_node-self d.node) (eq-eqb d.feature.0 d.feature.0 refl)
