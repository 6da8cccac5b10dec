-- Properties of the objects of a resource, proved by going up from each to a root.
use Rattle.std.proofs.Common.{◌≡◌, ℕ, zero, suc, ◌<◌, true, length, Option, Some, None, arith, eq-eqb, refl, sym, ap, ◌∙◌}
use Rattle.std.specs.Option.{option_map_or}
use Rattle.std.proofs.lemmas.Option.{none-some, same_Some, slice_get_past}
use Rattle.mm_types.specs.Lookups as lookups
use Rattle.mm_types.specs.Resolved.{Metamodel}
use Rattle.mm_types.specs.Same.{is_feature}
use Rattle.mm_types.specs.Shapes.{contents_shape, is_containment, shape_of}
use Rattle.mm_types.specs.declared.end.End.{End}
use Rattle.mm_types.specs.declared.feature.Feature.{Feature}
use Rattle.mm_types.specs.declared.numbers.Node.{Node}
use Rattle.mm_types.specs.declared.numbers.Node.TheVariants as node
use Rattle.mm_types.specs.declared.numbers.ObjectNo.{ObjectNo}
use Rattle.mm_types.specs.declared.numbers.ResourceNo.{ResourceNo}
use Rattle.links.specs.Holders.{above, holder}
use Rattle.models.specs.Legal.{IsLegal}
use Rattle.models.specs.Model.{Model, reading}
use Rattle.containment.specs.Above.{resource_of}
use Rattle.fragment_paths.proofs.UpLemmas.{locate-falls, resource-none, resource-part, resource-root}

-- the feature of a resource's roots is a containment
pub contents-contains : (m : Metamodel) → is_containment m (lookups.contents m) ≡ true
contents-contains m =
    let f = lookups.contents m in
    ap (λ (x : Option Feature). is_feature f (option_map_or (λ g. shape_of m f g g.kind) x (contents_shape m)).containing) (slice_get_past m.features (length m.features) (omega arith)) ∙ eq-eqb f.0 f.0 refl

module _ (s : Model) (legal : IsLegal s) where
  -- if a property holds for each root of a resource, and for an object if it holds for its container, then it holds for each object of the
  -- resource
  module _ (P : ObjectNo → Type 0) (k : ResourceNo) (at_root : (o : ObjectNo) (e : End) → holder s.links (node.Object o) ≡ Some e → e.node ≡ node.Resource k → P o)
      (at_part : (o : ObjectNo) (e : End) (p : ObjectNo) → holder s.links (node.Object o) ≡ Some e → e.node ≡ node.Object p → resource_of (reading s).above p ≡ Some k → P p → P o) where
    by-holder : (o : ObjectNo) (e : End) → holder s.links (node.Object o) ≡ Some e → resource_of (reading s).above o ≡ Some k
        → ((p : ObjectNo) → e.node ≡ node.Object p → resource_of (reading s).above p ≡ Some k → P p) → P o
    by-holder o e h inside up = by e.node refl
      where
        by : (n : Node) → e.node ≡ n → P o
        by (node.Object p) is = let above = sym (resource-part s legal o e p h is) ∙ inside in at_part o e p h is above (up p is above)
        by (node.Resource j) is = at_root o e h (is ∙ ap node.Resource (same_Some j k (sym (resource-root s legal o e j h is) ∙ inside)))

    up-from : (n : ℕ) (o : ObjectNo) → length (above s.links (node.Object o)) < n → resource_of (reading s).above o ≡ Some k → P o
    up-from zero o low inside = absurd (omega (arith, low))
    up-from (suc n) o low inside =
        elim (holder s.links (node.Object o)) as (λ x. holder s.links (node.Object o) ≡ x → P o) [
          | None ↦ λ none. absurd (none-some k (sym (resource-none s legal o none) ∙ inside))
          | Some e ↦ λ h. by-holder o e h inside (λ p is within. let less = locate-falls s legal o e p (sym h) is in up-from n p (omega (arith, less, low)) within)
        ] refl

    pub each-inside : (o : ObjectNo) → resource_of (reading s).above o ≡ Some k → P o
    each-inside o inside = up-from (suc (length (above s.links (node.Object o)))) o (omega arith) inside
