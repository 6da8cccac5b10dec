-- The containment forest, read off a model: the object that contains an object, the objects that a node contains, and all objects below an
-- object (EMF: EObject.eContainer, eContents, eAllContents).
use Rattle.std.specs.Prelude.{ℕ, zero, suc, Bool, false, ◌&&◌, nat_lt, length, List, [], ◌∷◌, filter, flat_map, Option, Some, None, option_and_then}
use Rattle.std.specs.List.{list_any}
use Rattle.mm_types.specs.Same.{same_object}
use Rattle.mm_types.specs.Shapes.{is_containment}
use Rattle.mm_types.specs.declared.numbers.FeatureNo.{FeatureNo}
use Rattle.mm_types.specs.declared.numbers.ObjectNo.{ObjectNo}
use Rattle.mm_types.specs.declared.numbers.Node.{Node}
use Rattle.mm_types.specs.declared.numbers.Node.TheVariants as node
use Rattle.mm_types.specs.declared.end.End.{End}
use Rattle.models.specs.Reading.{Reading, all_features_of, at_end, objects_of}

-- the objects that a node contains under the containments among the features fs, feature by feature, and under each feature by position
abbrev pub parts : Reading → Node → List FeatureNo → List ObjectNo
parts r n fs = flat_map (λ f. objects_of (r.values (at_end n f))) (filter (is_containment r.metamodel) fs)

-- the objects that a node directly contains: feature by feature, in the order of all features of the node, and under each feature by
-- position
abbrev pub contents : Reading → Node → List ObjectNo
contents r n = parts r n (all_features_of r n)

-- whether a feature is a containment, and the node has values under it
abbrev pub has_parts_at : Reading → Node → FeatureNo → Bool
has_parts_at r n f = is_containment r.metamodel f && nat_lt 0 (length (r.values (at_end n f)))

abbrev pub has_parts : Reading → Node → Bool
has_parts r n = list_any (has_parts_at r n) (all_features_of r n)

abbrev pub object_of_node : Node → Option ObjectNo
object_of_node (node.Object o) = Some o
object_of_node (node.Resource k) = None

-- the object that contains an object; none if no object contains it
abbrev pub container : Reading → ObjectNo → Option ObjectNo
container r o = option_and_then (λ (e : End). object_of_node e.node) (r.holder (node.Object o))

-- the object o and the objects below it, at most a given number of levels in all: o alone is the first level. Each object comes before its
-- contents
abbrev pub tree : Reading → ℕ → ObjectNo → List ObjectNo
tree r zero o = []
tree r (suc k) o = o ∷ flat_map (tree r k) (contents r (node.Object o))

-- the object o and all objects below it. A tree has at most `r.next` levels, since `r.next` objects were made; so `suc r.next` levels are
-- enough. If no object has the number of o, the list has only o
abbrev pub subtree : Reading → ObjectNo → List ObjectNo
subtree r o = tree r (suc r.next) o

-- for an object, the object and all objects below it; for a resource, all objects in it
abbrev pub node_subtree : Reading → Node → List ObjectNo
node_subtree r (node.Object o) = subtree r o
node_subtree r (node.Resource k) = flat_map (subtree r) (contents r (node.Resource k))

-- whether a node is an object of a list
abbrev pub is_node_among : List ObjectNo → Node → Bool
is_node_among os (node.Object o) = list_any (same_object o) os
is_node_among os (node.Resource k) = false
