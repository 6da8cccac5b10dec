-- What can be read of a model: its metamodel, its objects, the URIs of its resources, what each end holds, and what contains each object.
-- Apart from refusals for lack of memory, the refusal or the answer of a command depends only on the command, the reading and the views of
-- the adapters. So no caller can tell apart two models with the same reading.
use Rattle.std.specs.Prelude.{ℕ, ◌&&◌, ◌||◌, Bool, true, false, List, [], ◌∷◌, length, nat_lt, Option, Some, None, is_some, option_and_then, option_map, position, unwrap_or, if◌then◌else◌}
use Rattle.std.specs.List.{filter_map, list_any}
use Rattle.std.specs.Option.{option_map_or}
use Rattle.std.specs.Str.{bytes_eq}
use Rattle.mm_types.specs.Lookups as lookups
use Rattle.mm_types.specs.Resolved.{Metamodel}
use Rattle.mm_types.specs.Same.{same_feature, same_node}
use Rattle.mm_types.specs.Shapes.{Shape, shape}
use Rattle.mm_types.specs.Ends.{Ends, first_in, has_value, shown_values}
use Rattle.mm_types.specs.Ends as ends
use Rattle.mm_types.specs.declared.numbers.ClassNo.{ClassNo}
use Rattle.mm_types.specs.declared.numbers.FeatureNo.{FeatureNo}
use Rattle.mm_types.specs.declared.numbers.ObjectNo.{ObjectNo}
use Rattle.mm_types.specs.declared.numbers.ResourceNo.{ResourceNo}
use Rattle.mm_types.specs.declared.numbers.Node.{Node}
use Rattle.mm_types.specs.declared.numbers.Node.TheVariants as node
use Rattle.mm_types.specs.declared.end.End.{End}
use Rattle.mm_types.specs.declared.value.Value.{Value}
use Rattle.mm_types.specs.declared.value.Value.TheVariants as value

-- `next` is the number that the next object gets. `class` gives the class of a live object, and none for any other number; `uris` has the
-- URIs in the order of the numbers of their resources. `values` gives the values of an end, `flag` whether a single unsettable attribute is
-- set, `holder` the end that contains a node, and `above` all nodes above a node, the nearest first
pub record Reading : Type 0 where
  pub metamodel : Metamodel
  pub next : ℕ
  pub class : ObjectNo → Option ClassNo
  pub uris : List (List ℕ)
  pub values : End → List Value
  pub flag : End → Bool
  pub holder : Node → Option End
  pub above : Node → List Node

abbrev pub object_node : ℕ → Node
object_node k = node.Object (record { 0 = k })

abbrev pub resource_node : ℕ → Node
resource_node k = node.Resource (record { 0 = k })

abbrev pub at_end : Node → FeatureNo → End
at_end n f = record { node = n; feature = f }

-- the end that holds the roots of the resource k (EMF: Resource.getContents), in any model of the metamodel m
abbrev pub contents_end : Metamodel → ResourceNo → End
contents_end m k = at_end (node.Resource k) (lookups.contents m)

-- the end that holds the roots of the resource k, in a model with the reading r
abbrev pub roots_end : Reading → ResourceNo → End
roots_end r k = contents_end r.metamodel k

-- the shape of an end's feature
abbrev pub shape_at : Reading → End → Shape
shape_at r e = shape r.metamodel e.feature

-- what each end holds, as notifications show it: an empty single end holds null
abbrev pub held_at : Reading → Ends
held_at r e = record { values = shown_values (shape_at r e).is_single (r.values e); flag = r.flag e }

-- the value of a single end; null if the end is empty
abbrev pub value_at : Reading → End → Value
value_at r e = ends.value_in (held_at r e).values 0

-- whether an end is set
abbrev pub is_set : Reading → End → Bool
is_set r e = ends.is_set (shape_at r e) (held_at r e)

---------------------------------------------------------------- which nodes are there, and what they have

abbrev pub is_live : Reading → ObjectNo → Bool
is_live r o = is_some (r.class o)

-- whether a node is a live object, or is a resource, which need not exist; and `is_value_live`, whether a value is a live object, or no
-- object at all
abbrev pub is_node_live : Reading → Node → Bool
is_node_live r (node.Object o) = is_live r o
is_node_live r (node.Resource k) = true

abbrev pub is_value_live : Reading → Value → Bool
is_value_live r (value.Object o) = is_live r o
is_value_live r _ = true

abbrev pub has_resource : Reading → ResourceNo → Bool
has_resource r k = nat_lt k.0 (length r.uris)

-- the resource with a given URI; none if no resource has the URI
abbrev pub resource_named : Reading → List ℕ → Option ResourceNo
resource_named r u = option_map (λ i. record { 0 = i }) (position (bytes_eq u) r.uris)

-- whether some resource has a given URI
abbrev pub has_uri : Reading → List ℕ → Bool
has_uri r u = list_any (bytes_eq u) r.uris

-- whether a node is a resource that exists, or is an object, live or not
abbrev pub is_resource_there : Reading → Node → Bool
is_resource_there r (node.Object o) = true
is_resource_there r (node.Resource k) = has_resource r k

-- whether a node has a feature, own or inherited; a resource has only `contents`, which holds its roots. An object that is not live and a
-- resource that does not exist have no feature
abbrev pub has_feature : Reading → Node → FeatureNo → Bool
has_feature r (node.Object o) f = option_map_or (λ c. lookups.has_feature r.metamodel c f) (r.class o) false
has_feature r (node.Resource k) f = has_resource r k && same_feature f (lookups.contents r.metamodel)

-- all features of a node, own and inherited; none for an object that is not live, and for a resource that does not exist
abbrev pub all_features_of : Reading → Node → List FeatureNo
all_features_of r (node.Object o) = unwrap_or (option_and_then (lookups.features r.metamodel) (r.class o)) []
all_features_of r (node.Resource k) = if has_resource r k then lookups.contents r.metamodel ∷ [] else []

-- the first position of a value at an end; none if the value is not there
abbrev pub first_at : Reading → End → Value → Option ℕ
first_at r e v = first_in (r.values e) v

-- whether the feature of an end is unique, and the value is at the end already
abbrev pub is_repeat : Reading → End → Value → Bool
is_repeat r e v = (shape_at r e).is_unique && has_value (r.values e) v

-- the given position, if one is given; else the position after the last value of the end
abbrev pub position_for : Reading → End → Option ℕ → ℕ
position_for r e i = unwrap_or i (length (r.values e))

-- the object that a value is; none if the value is no object
abbrev pub object_of : Value → Option ObjectNo
object_of (value.Object o) = Some o
object_of _ = None

abbrev pub objects_of : List Value → List ObjectNo
objects_of vs = filter_map object_of vs

-- whether the node n is the node x, or is below x
abbrev pub is_within : Reading → Node → Node → Bool
is_within r x n = same_node x n || list_any (same_node x) (r.above n)

-- whether a caller may give a feature a value; the length of a text is not tested
abbrev pub takes : Reading → FeatureNo → Value → Bool
takes r f v = lookups.takes r.metamodel r.class f v
