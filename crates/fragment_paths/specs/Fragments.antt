-- The fragment of an object in its resource (EMF: Resource.getURIFragment), and its address (EcoreUtil.getURI).
use Rattle.std.specs.Prelude.{ℕ, Bool, false, List, [], ◌∷◌, length, nat_eq, slice_get, Option, Some, None, option_and_then, option_map, unwrap_or, if◌then◌else◌}
use Rattle.std.specs.Option.{option_map_or}
use Rattle.mm_types.specs.Resolved.{Metamodel}
use Rattle.mm_types.specs.Lookups as lookups
use Rattle.mm_types.specs.declared.numbers.ObjectNo.{ObjectNo}
use Rattle.mm_types.specs.declared.numbers.ResourceNo.{ResourceNo}
use Rattle.mm_types.specs.declared.numbers.Node.{Node}
use Rattle.mm_types.specs.declared.numbers.Node.TheVariants as node
use Rattle.mm_types.specs.declared.end.End.{End}
use Rattle.mm_types.specs.declared.value.Value.TheVariants as value
use Rattle.models.specs.Reading.{Reading, at_end, first_at, roots_end, shape_at}
use Rattle.containment.specs.Above.{resource_of}
use Rattle.web_uris.specs.Addresses.{address_text}
use Rattle.web_uris.specs.Paths.{new_path, new_step, path_text, with_step}
use Rattle.web_uris.specs.declared.path.Path.{Path}
use Rattle.web_uris.specs.declared.path.Step.{Step}

-- the position of an object in an end; 0 if the object is not there
abbrev pub position_in : Reading → End → ObjectNo → ℕ
position_in r e o = unwrap_or (first_at r e (value.Object o)) 0

-- the name of an end's feature
abbrev pub end_name : Reading → End → List ℕ
end_name r e = lookups.feature_name r.metamodel e.feature

-- the step that leads from the node of an end to an object that the end contains: the feature's name, and the object's position if the
-- feature is many-valued
abbrev pub step_into : Reading → End → ObjectNo → Step
step_into r e o =
    new_step (end_name r e) (if (shape_at r e).is_single then None else Some (position_in r e o))

-- the path of an object, given the nodes above it, the nearest first; none if none of these nodes is a resource
abbrev pub path_under : Reading → List Node → ObjectNo → Option Path
path_under r [] o = None
path_under r (node.Resource k ∷ ns) o = option_map (λ e. new_path (position_in r e o) []) (r.holder (node.Object o))
path_under r (node.Object h ∷ ns) o =
    option_and_then (λ e. option_map (λ p. with_step p (step_into r e o)) (path_under r ns h)) (r.holder (node.Object o))

abbrev pub path_of : Reading → ObjectNo → Option Path
path_of r o = path_under r (r.above (node.Object o)) o

-- whether a resource has exactly one root
abbrev pub has_one_root : Reading → ResourceNo → Bool
has_one_root r k = nat_eq (length (r.values (roots_end r k))) 1

-- the fragment of an object; none if the object is in no resource. The text leaves out the position of the root if the resource has one
-- root
abbrev pub fragment : Reading → ObjectNo → Option (List ℕ)
fragment r o = option_and_then (λ k. option_map (path_text (has_one_root r k)) (path_of r o)) (resource_of r.above o)

-- the address of an object: its resource's URI, `#`, and its fragment; none if the object is in no resource
abbrev pub address : Reading → ObjectNo → Option (List ℕ)
address r o =
    option_and_then
    (λ (k : ResourceNo). option_and_then (λ u. option_map (address_text u) (fragment r o)) (slice_get r.uris k.0))
    (resource_of r.above o)

-- whether an object is in the resource k
abbrev pub is_in : Reading → ResourceNo → ObjectNo → Bool
is_in r k o = option_map_or (λ j. nat_eq j.0 k.0) (resource_of r.above o) false

-- how a resource refers to an object: by the object's fragment if the object is in the resource too, and otherwise by the object's address;
-- none if the object is in no resource
abbrev pub reference : Reading → ResourceNo → ObjectNo → Option (List ℕ)
reference r k o = if is_in r k o then fragment r o else address r o
