-- Which parts of a resource are written: its objects in loading order (the order in which a load of the document makes them), and of each
-- object the features that are set and are no container references.
use Rattle.std.specs.Prelude.{ℕ, ◌&&◌, Bool, not, List, filter, flat_map, length}
use Rattle.mm_types.specs.Lookups as lookups
use Rattle.mm_types.specs.Resolved.{Metamodel}
use Rattle.mm_types.specs.declared.numbers.FeatureNo.{FeatureNo}
use Rattle.mm_types.specs.declared.numbers.ObjectNo.{ObjectNo}
use Rattle.mm_types.specs.declared.numbers.ResourceNo.{ResourceNo}
use Rattle.mm_types.specs.declared.numbers.Node.TheVariants as node
use Rattle.models.specs.Reading.{Reading, all_features_of, at_end, is_set}
use Rattle.containment.specs.Forest.{subtree}
use Rattle.fragment_paths.specs.Finding.{roots}

-- the objects of a resource, root by root; each object is directly followed by all objects below it. The objects that an object contains
-- come feature by feature, in the order of all features of the class of the container; under one feature they are in the order of their
-- positions.
abbrev pub objects_in : Reading → ResourceNo → List ObjectNo
objects_in r k = flat_map (subtree r) (roots r k)

-- whether a feature may be written: it is no container reference
abbrev pub is_writable : Metamodel → FeatureNo → Bool
is_writable m f = not (lookups.is_container m f)

-- whether a feature of an object is written: it is set, and is no container reference
abbrev pub is_written : Reading → ObjectNo → FeatureNo → Bool
is_written r o f = is_set r (at_end (node.Object o) f) && not (lookups.is_container r.metamodel f)

abbrev pub written_features : Reading → ObjectNo → List FeatureNo
written_features r o = filter (is_written r o) (all_features_of r (node.Object o))

-- the level of an object: the number of nodes above it, the resource included; so a root is at level 1
abbrev pub level : Reading → ObjectNo → ℕ
level r o = length (r.above (node.Object o))
