-- The objects that are destroyed with an object (the object itself and all objects below it), and the ends of other nodes that have some of
-- these objects as values.
use Rattle.std.specs.Prelude.{ℕ, suc, ◌&&◌, Bool, not, List, filter, flat_map, length, map, if◌then◌else◌}
use Rattle.std.specs.List.{list_any, range_with_len}
use Rattle.mm_types.specs.Lookups as lookups
use Rattle.mm_types.specs.Same.{same_feature}
use Rattle.mm_types.specs.declared.end.End.{End}
use Rattle.mm_types.specs.declared.numbers.FeatureNo.{FeatureNo}
use Rattle.mm_types.specs.declared.numbers.Node.{Node}
use Rattle.mm_types.specs.declared.numbers.Node.TheVariants as node
use Rattle.mm_types.specs.declared.numbers.ObjectNo.{ObjectNo}
use Rattle.links.specs.Laws.{goes}
use Rattle.models.specs.Reading.{Reading, at_end, shape_at, object_node, resource_node}
use Rattle.containment.specs.Forest.{is_node_among, subtree}

-- whether a node is destroyed with an object: the node is that object, or is below that object
abbrev pub is_in_subtree : Reading → ObjectNo → Node → Bool
is_in_subtree r o = is_node_among (subtree r o)

-- the nodes that may have a feature, in the order of their numbers, without the nodes that are destroyed: for `contents`, the resources;
-- for each other feature, the objects that were made
abbrev pub others_with : Reading → (Node → Bool) → FeatureNo → List Node
others_with r is_gone f =
    if same_feature f (lookups.contents r.metamodel) then map resource_node (range_with_len 0 (length r.uris))
    else filter (λ n. not (is_gone n)) (map object_node (range_with_len 0 r.next))

-- the ends of the feature with the number k at the nodes of `others_with`
abbrev pub ends_of : Reading → (Node → Bool) → ℕ → List End
ends_of r is_gone k = let f : FeatureNo = record { 0 = k } in map (λ n. at_end n f) (others_with r is_gone f)

-- the ends of each feature at the nodes of `others_with`, in the order of the feature numbers, then of the nodes
abbrev pub outer_ends : Reading → (Node → Bool) → List End
outer_ends r is_gone = flat_map (ends_of r is_gone) (range_with_len 0 (suc (length r.metamodel.features)))

-- whether the end e is an end of a reference and has a destroyed object as a value
abbrev pub holds_some : Reading → (Node → Bool) → End → Bool
holds_some r is_gone e = (shape_at r e).is_reference && list_any (goes is_gone) (r.values e)

-- when o is destroyed: the ends at which a destroyed object is a value, and whose nodes remain
abbrev pub touched_ends : Reading → ObjectNo → List End
touched_ends r o = filter (holds_some r (is_in_subtree r o)) (outer_ends r (is_in_subtree r o))
