-- The links that are cut when an object and all objects below it are destroyed, each named once. A proxy that is a value of a destroyed
-- object counts as a link too.
use Rattle.std.specs.Prelude.{◌||◌, Bool, true, not, List, [], ◌++◌, filter, flat_map, map, is_some, nat_lt, if◌then◌else◌}
use Rattle.std.specs.Option.{option_map_or}
use Rattle.mm_types.specs.Shapes.{shape}
use Rattle.mm_types.specs.declared.end.End.{End}
use Rattle.mm_types.specs.declared.numbers.FeatureNo.{FeatureNo}
use Rattle.mm_types.specs.declared.numbers.Node.{Node}
use Rattle.mm_types.specs.declared.numbers.Node.TheVariants as node
use Rattle.mm_types.specs.declared.numbers.ObjectNo.{ObjectNo}
use Rattle.mm_types.specs.declared.value.Value.{Value}
use Rattle.links.specs.Laws.{goes}
use Rattle.models.specs.Reading.{Reading, all_features_of, at_end, shape_at}
use Rattle.containment.specs.Forest.{subtree}
use Rattle.removal.specs.Outer.{is_in_subtree, touched_ends}
use Rattle.removal.specs.declared.link_end.LinkEnd.{LinkEnd}

abbrev pub link_end : End → Value → LinkEnd
link_end e v = record { end = e; value = v }

-- whether a link is named at an end of a destroyed object; f is the feature of the end, and v is the value of the link there. If the link
-- has two ends, both at destroyed objects, it is named only at the end whose feature has the lower number. Any other link of a destroyed
-- object is named at the end of this object
abbrev pub is_named_here : Reading → (Node → Bool) → FeatureNo → Value → Bool
is_named_here r is_gone f v = not (goes is_gone v) || option_map_or (λ g. nat_lt f.0 g.0) (shape r.metamodel f).opposite true

abbrev pub end_link_ends : Reading → (Node → Bool) → End → List LinkEnd
end_link_ends r is_gone e = map (link_end e) (filter (is_named_here r is_gone e.feature) (r.values e))

abbrev pub references_of : Reading → Node → List FeatureNo
references_of r n = filter (λ f. (shape r.metamodel f).is_reference) (all_features_of r n)

-- the links that are named at the ends of an object that is destroyed
abbrev pub node_link_ends : Reading → (Node → Bool) → ObjectNo → List LinkEnd
node_link_ends r is_gone o = flat_map (λ f. end_link_ends r is_gone (at_end (node.Object o) f)) (references_of r (node.Object o))

-- the links that are named at an end of a node that remains: the links to destroyed objects, if the end's feature has no opposite;
-- otherwise none
abbrev pub outer_link_ends : Reading → (Node → Bool) → End → List LinkEnd
outer_link_ends r is_gone e = if is_some (shape_at r e).opposite then [] else map (link_end e) (filter (goes is_gone) (r.values e))

-- all links of an object and of the objects below it
abbrev pub tree_link_ends : Reading → ObjectNo → List LinkEnd
tree_link_ends r o = flat_map (node_link_ends r (is_in_subtree r o)) (subtree r o) ++ flat_map (outer_link_ends r (is_in_subtree r o)) (touched_ends r o)
