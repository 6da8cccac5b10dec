-- The nodes above a node: the node that contains it, and the nodes above that one.
use Rattle.std.proofs.Common.{◌≡◌, ℕ, zero, suc, ◌<◌, true, false, List, [], ◌∷◌, length, Option, Some, None, if◌then◌else◌, refl, sym, ap, ◌∙◌, subst, inl, inr, arith}
use Rattle.std.specs.Prelude.{◌&&◌, ◌↔◌}
use Rattle.std.specs.List.{list_any}
use Rattle.std.specs.Option.{option_map_or}
use Rattle.std.specs.FinSet as set
use Rattle.std.proofs.lemmas.Bool.{and_parts, false≢true, or_cases, or_left, or_right}
use Rattle.std.proofs.lemmas.Option.{none-some, same_Some}
use Rattle.links.proofs.AcyclicLemmas.{IsForest_no_cycle}
use Rattle.links.proofs.ClimbLemmas.{climb_step, climb_stop, under_holder, under_more}
use Rattle.links.proofs.HolderLemmas.{holder-some, test_some}
use Rattle.links.proofs.PlaceLemmas.{same_node_if}
use Rattle.links.specs.Holders.{HasNoCycle, IsUnder, above, climb, far_holding, held_through, holder, is_far_node, nearest_nodes_above}
use Rattle.links.specs.LegalSets.{HasTwoSides, IsLegalSet, IsObject}
use Rattle.links.specs.Links.{Links}
use Rattle.links.specs.declared.link.Far.TheVariants.{At, Alone, Proxy}
use Rattle.links.specs.declared.link.Far.{Far}
use Rattle.links.specs.declared.link.Link.{Link}
use Rattle.mm_types.proofs.SameLemmas.{same_node-true}
use Rattle.mm_types.specs.Same.{same_feature, same_node}
use Rattle.mm_types.specs.declared.end.End.{End}
use Rattle.mm_types.specs.declared.numbers.FeatureNo.{FeatureNo}
use Rattle.mm_types.specs.declared.numbers.Node.TheVariants as node
use Rattle.mm_types.specs.declared.numbers.Node.{Node}
use Rattle.mm_types.specs.declared.numbers.ResourceNo.{ResourceNo}

---------------------------------------------------------------- resources

held_far : (f : Far) (e : End) (n : Node) → HasTwoSides e f → is_far_node f n ≡ true → IsObject n
held_far (At d j) e n two h = subst (λ (x : Node). IsObject x) (same_node-true d.node n h) two.2
held_far (Alone o) e n two h = subst (λ (x : Node). IsObject x) (same_node-true (node.Object o) n h) tt
held_far (Proxy t) e n two h = absurd (false≢true h)

held_near : (f : Far) (h : FeatureNo) (e : End) (n : Node) (x : End) → HasTwoSides e f → far_holding f h e.node n ≡ Some x → IsObject n
held_near (At d j) h e n x two at =
    let both = and_parts (same_feature d.feature h) (same_node e.node n) (test_some (same_feature d.feature h && same_node e.node n) d x at).0 in
    subst (λ (y : Node). IsObject y) (same_node-true e.node n both.1) two.1
held_near (Alone o) h e n x two at = absurd (none-some x at)
held_near (Proxy t) h e n x two at = absurd (none-some x at)

pub held_object : (c : Option FeatureNo) (l : Link) (n : Node) (x : End) → HasTwoSides l.end l.far → held_through c l n ≡ Some x → IsObject n
held_object None l n x two at = absurd (none-some x at)
held_object (Some h) l n x two at =
    elim (same_feature l.end.feature h) as (λ b. (if b then (if is_far_node l.far n then Some l.end else None) else far_holding l.far h l.end.node n) ≡ Some x → IsObject n) [
      | true ↦ λ q. held_far l.far l.end n two (test_some (is_far_node l.far n) l.end x q).0
      | false ↦ λ q. held_near l.far h l.end n x two q
    ] at

-- a resource is at the top
pub resource_top : (s : Links) (r : ResourceNo) → IsLegalSet s → holder s (node.Resource r) ≡ None
resource_top s r legal = elim (holder s (node.Resource r)) as (λ o. holder s (node.Resource r) ≡ o → o ≡ None) [
  | None ↦ λ _. refl
  | Some e ↦ λ h. let l = holder-some s (node.Resource r) e h in absurd (held_object l.0.container l.0 (node.Resource r) e (legal.placed.sides l.0 l.1) l.2)
] refl

---------------------------------------------------------------- above

-- after the end of a chain further steps list no more nodes
climbed_more : (s : Links) (k : ℕ) (n : Node) → climb s (suc k) n ≡ None → nearest_nodes_above (holder s) k n ≡ nearest_nodes_above (holder s) (suc k) n
climbed_more s zero n h =
    elim (holder s n) as (λ o. holder s n ≡ o → [] ≡ option_map_or (λ (e : End). e.node ∷ nearest_nodes_above (holder s) zero e.node) o []) [
      | None ↦ λ _. refl
      | Some e ↦ λ q. absurd (none-some e.node (sym h ∙ climb_step s n e zero q))
    ] refl
climbed_more s (suc k) n h =
    elim (holder s n) as (λ o. holder s n ≡ o → option_map_or (λ (e : End). e.node ∷ nearest_nodes_above (holder s) k e.node) o [] ≡ option_map_or (λ (e : End). e.node ∷ nearest_nodes_above (holder s) (suc k) e.node) o []) [
      | None ↦ λ _. refl
      | Some e ↦ λ q. ap (λ (ns : List Node). e.node ∷ ns) (climbed_more s k e.node (sym (climb_step s n e (suc k) q) ∙ h))
    ] refl

-- a node that is found above is reached by holders
nearest_nodes_above-under : (s : Links) (k : ℕ) (x y : Node) → list_any (same_node y) (nearest_nodes_above (holder s) k x) ≡ true → IsUnder s x y
nearest_nodes_above-under s zero x y h = absurd (false≢true h)
nearest_nodes_above-under s (suc k) x y h =
    elim (holder s x) as (λ o. holder s x ≡ o → list_any (same_node y) (option_map_or (λ (e : End). e.node ∷ nearest_nodes_above (holder s) k e.node) o []) ≡ true → IsUnder s x y) [
      | None ↦ λ q p. absurd (false≢true p)
      | Some e ↦ λ q p. elim (or_cases (same_node y e.node) (list_any (same_node y) (nearest_nodes_above (holder s) k e.node)) p) [
        | inl here ↦ under_holder s x e y q (sym (same_node-true y e.node here))
        | inr later ↦ under_more s x e y q (nearest_nodes_above-under s k e.node y later)
      ]
    ] refl h

pub above-under : (s : Links) (x y : Node) → list_any (same_node y) (above s x) ≡ true → IsUnder s x y
unfolding above
above-under s x y h = nearest_nodes_above-under s (set.len s) x y h

module _ (s : Links) (legal : IsLegalSet s) (free : HasNoCycle s) where
  -- the nodes above a node are the holder's node and then the nodes above it
  pub above_is : (n : Node) → above s n ≡ option_map_or (λ (e : End). e.node ∷ above s e.node) (holder s n) []
  unfolding above
  above_is n = climbed_more s (set.len s) n (IsForest_no_cycle s legal.held free n)

  pub above_held : (n : Node) (e : End) → holder s n ≡ Some e → above s n ≡ e.node ∷ above s e.node
  above_held n e h = above_is n ∙ ap (λ (o : Option End). option_map_or (λ (d : End). d.node ∷ above s d.node) o []) h

  -- each step up is one step nearer to the top
  pub above_falls : (n : Node) (e : End) → holder s n ≡ Some e → length (above s e.node) < length (above s n)
  above_falls n e h = omega (arith, ap (λ (ns : List Node). length ns) (above_held n e h))

  climb-above : (k : ℕ) (x y : Node) → climb s (suc k) x ≡ Some y → list_any (same_node y) (above s x) ≡ true
  climb-above zero x y at =
      elim (holder s x) as (λ o. holder s x ≡ o → list_any (same_node y) (above s x) ≡ true) [
        | None ↦ λ q. absurd (none-some y (sym (climb_stop s x zero q) ∙ at))
        | Some e ↦ λ q. ap (list_any (same_node y)) (above_held x e q) ∙ or_left _ _ (same_node_if y e.node (sym (same_Some e.node y (sym (climb_step s x e zero q) ∙ at))))
      ] refl
  climb-above (suc k) x y at =
      elim (holder s x) as (λ o. holder s x ≡ o → list_any (same_node y) (above s x) ≡ true) [
        | None ↦ λ q. absurd (none-some y (sym (climb_stop s x (suc k) q) ∙ at))
        | Some e ↦ λ q. ap (list_any (same_node y)) (above_held x e q) ∙ or_right _ _ (climb-above k e.node y (sym (climb_step s x e (suc k) q) ∙ at))
      ] refl

  -- a node is under exactly the nodes above it
  pub above_under : (x y : Node) → (list_any (same_node y) (above s x) ≡ true) ↔ IsUnder s x y
  above_under x y = (above-under s x y, λ u. climb-above u.0 x y u.1)

  -- a node is not above itself
  pub not_above_itself : (x : Node) → list_any (same_node x) (above s x) ≡ false
  not_above_itself x = elim (list_any (same_node x) (above s x)) as (λ b. list_any (same_node x) (above s x) ≡ b → b ≡ false) [
    | true ↦ λ h. absurd (free x (above-under s x x h))
    | false ↦ λ _. refl
  ] refl
