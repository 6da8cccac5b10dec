-- Why a change is refused: something that the change names does not exist; or the class of a new object is abstract; or the act doesn't fit
-- the feature; or the change is forbidden by the type of a value, the length of a text, an index, a repeated value, a proxy that can't be
-- resolved, a full end, a cycle of containment, a limit, a URI that a resource has already, or a resource that is not empty. All further
-- refusals are found by the repository.
use Rattle.std.specs.Prelude.{ℕ, ◌+◌, ◌&&◌, ◌||◌, Bool, false, not, List, length, nat_le, nat_lt, Option, None, Some, is_some, if◌then◌else◌}
use Rattle.std.specs.Option.{option_map_or}
use Rattle.mm_types.specs.Conditions.{◌unless◌, ◌where_so◌, ◌else_by◌}
use Rattle.mm_types.specs.Same.{same_feature}
use Rattle.mm_types.specs.Shapes.{is_full_list, shape}
use Rattle.mm_types.specs.declared.limits.TheConstants.{LIST_VALUES, OBJECTS, RESOURCES}
use Rattle.mm_types.specs.declared.numbers.FeatureNo.{FeatureNo}
use Rattle.mm_types.specs.declared.numbers.ObjectNo.{ObjectNo}
use Rattle.mm_types.specs.declared.numbers.ResourceNo.{ResourceNo}
use Rattle.mm_types.specs.declared.numbers.Node.TheVariants as node
use Rattle.mm_types.specs.declared.end.End.{End}
use Rattle.mm_types.specs.declared.refused.Refused.{Refused}
use Rattle.mm_types.specs.declared.refused.Refused.TheVariants.{NotSingle, NotMany, WrongType, TextLength, Index, Duplicate, Bound, Recursive, Limit, ResourceExists, NotEmpty}
use Rattle.mm_types.specs.declared.value.Value.{Value}
use Rattle.mm_types.specs.declared.value.Value.TheVariants as value
use Rattle.models.specs.Reading.{Reading, has_uri, is_repeat, is_within, position_for, shape_at, takes}
use Rattle.models.specs.Legal.{is_short, is_short_text}
use Rattle.doc_loader.specs.Loading.{is_empty_resource}
use Rattle.resource_docs.specs.declared.doc.Doc.{Doc}
use Rattle.models.specs.Existence.{class_refusal, end_refusal, node_refusal, value_refusal}
use Rattle.mm_types.specs.Resolved.{Metamodel}
use Rattle.handshake.specs.Displaced.{has_already}
use Rattle.proxies.specs.Resolving.{opposite_end}
use Rattle.proxies.specs.Refusals.{resolve_refusal}
use Rattle.handshake.specs.declared.act.Act.{Act}
use Rattle.handshake.specs.declared.change.Change.{Change}
use Rattle.handshake.specs.declared.change.Change.TheVariants.{At, Create, Delete, NewResource, Load}
use Rattle.handshake.specs.declared.act.Act.TheVariants.{Set, Unset, Add, Remove, RemoveValue, Move, Resolve}

-- why a feature can't have a value
abbrev pub type_refusal : Reading → FeatureNo → Value → Option Refused
type_refusal r f v =
    WrongType unless takes r f v else_by
    TextLength unless is_short v

-- Whether a new link from the end e to the object o would put a node into itself or into a node below it. If the feature of e is the
-- containment h, the node of e would contain o. Otherwise h is the opposite of that feature, and o would contain the node of e.
abbrev pub is_recursive_for : Reading → End → ObjectNo → FeatureNo → Bool
is_recursive_for r e o h =
    if same_feature e.feature h then is_within r (node.Object o) e.node else is_within r e.node (node.Object o)

abbrev pub is_recursive : Reading → End → ObjectNo → Bool
is_recursive r e o = option_map_or (is_recursive_for r e o) (shape_at r e).containing false

-- how many values are at an end
abbrev pub count_at : Reading → End → ℕ
count_at r e = length (r.values e)

-- whether an end has an upper bound above 1 and has reached this bound; and `is_at_limit`, whether an end has the greatest number of values
-- that a list may have
abbrev pub is_full_at : Reading → End → Bool
is_full_at r e = is_full_list (shape_at r e) (count_at r e)

abbrev pub is_at_limit : Reading → End → Bool
is_at_limit r e = nat_le LIST_VALUES (count_at r e)

-- whether `holds` is true of the end e, or of the opposite end that a new link from e to the object o has
abbrev pub of_either : (End → Bool) → Reading → End → ObjectNo → Bool
of_either holds r e o = holds e || option_map_or holds (opposite_end r e o) false

-- why an end can't gain a link to an object
abbrev pub link_refusal : Reading → End → ObjectNo → Option Refused
link_refusal r e o =
    Bound where_so of_either (is_full_at r) r e o else_by
    Recursive where_so is_recursive r e o else_by
    Limit where_so of_either (is_at_limit r) r e o

-- why an end can't gain a value
abbrev pub gain_refusal : Reading → End → Value → Option Refused
gain_refusal r e (value.Object o) = link_refusal r e o
gain_refusal r e v =
    Bound where_so is_full_at r e else_by
    Limit where_so is_at_limit r e

-- why an end can't be set to a value. If the value is an object that the end does not have already, the set is refused if the end can't
-- gain a link to this object. Any other set is not refused here
abbrev pub set_refusal : Reading → End → Value → Option Refused
set_refusal r e (value.Object o) = if has_already r e (value.Object o) then None else link_refusal r e o
set_refusal r e v = None

-- why a value can't be added. If a unique list has the value already, the addition is refused exactly if an index is given. Any other
-- addition is refused if the end can't gain the value
abbrev pub add_refusal : Reading → End → Value → Option ℕ → Option Refused
add_refusal r e v i = if is_repeat r e v then (Duplicate where_so is_some i) else gain_refusal r e v

-- why no resource with a URI can be made
abbrev pub uri_refusal : Reading → List ℕ → Option Refused
uri_refusal r u =
    TextLength unless is_short_text u else_by
    Limit unless nat_lt (length r.uris) RESOURCES else_by
    ResourceExists where_so has_uri r u

-- why a document can't be loaded into a resource
abbrev pub load_refusal : Reading → ResourceNo → Doc → Option Refused
load_refusal r k doc =
    Limit unless nat_le (r.next + length doc.objects) OBJECTS else_by
    NotEmpty unless is_empty_resource r k

-- why a feature refuses a set: the feature is not single; and `many_refusal`, why it refuses an edit of a list: the feature is single
abbrev pub single_refusal : Metamodel → FeatureNo → Option Refused
single_refusal m f = NotSingle unless (shape m f).is_single

abbrev pub many_refusal : Metamodel → FeatureNo → Option Refused
many_refusal m f = NotMany where_so (shape m f).is_single

-- why an act doesn't fit a feature: a set needs a single feature; an addition, a removal and a move need a many-valued feature. An unset
-- and a resolve fit every feature
abbrev pub kind_refusal : Metamodel → FeatureNo → Act → Option Refused
kind_refusal m f (Set v) = single_refusal m f
kind_refusal m f Unset = None
kind_refusal m f (Resolve i) = None
kind_refusal m f _ = many_refusal m f

-- the value that an act names
abbrev pub value_of : Act → Option Value
value_of (Set v) = Some v
value_of (Add v i) = Some v
value_of (RemoveValue v) = Some v
value_of _ = None

-- why an act at an end is refused because of what it names: the node does not exist or does not have the feature, or the value of the act
-- is an object that does not live
abbrev pub named_refusal : Reading → End → Act → Option Refused
named_refusal r e a = option_map_or (value_refusal r e) (value_of a) (end_refusal r e)

-- why an addition of a value at an end, or a removal of a value by `RemoveValue`, is refused before it is planned
abbrev pub list_refusal : Reading → End → Value → Option Refused
list_refusal r e v = value_refusal r e v else_by many_refusal r.metamodel e.feature

-- why a change is refused before it is planned: something that the change names does not exist, the class of a new object is abstract, or
-- the act doesn't fit the feature
abbrev pub early_refusal : Reading → Change → Option Refused
early_refusal r (At e a) = named_refusal r e a else_by kind_refusal r.metamodel e.feature a
early_refusal r (Create c) = class_refusal r.metamodel c
early_refusal r (Delete o) = node_refusal r (node.Object o)
early_refusal r (Load k doc) = node_refusal r (node.Resource k)
early_refusal r _ = None

-- why a change that is not refused early is refused when it is planned
abbrev pub late_refusal : Reading → Change → Option Refused
late_refusal r (At e (Set v)) =
    type_refusal r e.feature v else_by
    set_refusal r e v
late_refusal r (At e (Add v i)) =
    type_refusal r e.feature v else_by
    Index unless nat_le (position_for r e i) (count_at r e) else_by
    add_refusal r e v i
late_refusal r (At e (Remove i)) = Index unless nat_lt i (count_at r e)
late_refusal r (At e (RemoveValue v)) = type_refusal r e.feature v
late_refusal r (At e (Move to from)) = Index unless (nat_lt to (count_at r e) && nat_lt from (count_at r e))
late_refusal r (At e (Resolve i)) = resolve_refusal r e i
late_refusal r (Create c) = Limit unless nat_lt r.next OBJECTS
late_refusal r (NewResource u) = uri_refusal r u
late_refusal r (Load k doc) = load_refusal r k doc
late_refusal r _ = None
