-- The snapshot of a node, as it is read from a model.
use Rattle.std.specs.Prelude.{◌≡◌, ◌<◌, ℕ, ◌&&◌, Bool, List, [], ◌∷◌, ◌++◌, filter, length, map, Option, Some, None, if◌then◌else◌}
use Rattle.std.specs.List.{list_any, range_with_len}
use Rattle.mm_types.specs.Same.{same_object}
use Rattle.mm_types.specs.declared.numbers.ClassNo.{ClassNo}
use Rattle.mm_types.specs.declared.numbers.FeatureNo.{FeatureNo}
use Rattle.mm_types.specs.declared.numbers.Node.{Node}
use Rattle.mm_types.specs.declared.numbers.Node.TheVariants as node
use Rattle.mm_types.specs.declared.numbers.ObjectNo.{ObjectNo}
use Rattle.models.specs.Reading.{Reading, all_features_of, at_end, has_resource, held_at, is_node_live, is_within, shape_at, object_node, resource_node}
use Rattle.snapshots.specs.declared.snapshot.FeatureState.{FeatureState}
use Rattle.snapshots.specs.declared.snapshot.NodeState.{NodeState}

-- the set flag of an unsettable feature; none for other features
abbrev pub flag_of : Bool → Bool → Option Bool
flag_of unsettable flag = if unsettable then Some flag else None

abbrev pub feature_state : Reading → Node → FeatureNo → FeatureState
feature_state r n f =
    let d = at_end n f in record { feature = f; values = (held_at r d).values; flag = flag_of (shape_at r d).is_unsettable (r.flag d) }

-- the class of a node; none for a resource, and for an object that does not live
abbrev pub class_at : Reading → Node → Option ClassNo
class_at r (node.Object o) = r.class o
class_at r (node.Resource k) = None

abbrev pub node_state : Reading → Node → NodeState
node_state r n = record { node = n; class = class_at r n; features = map (feature_state r n) (all_features_of r n) }

-- all nodes that could be in a snapshot: the resources, and then all objects that were made, destroyed ones included; both in the order of
-- their numbers
abbrev pub nodes : Reading → List Node
nodes r = map resource_node (range_with_len 0 (length r.uris)) ++ map object_node (range_with_len 0 r.next)

-- whether one of `nodes` is in the snapshot of a target: it is a resource or a live object, and it is the target or below the target
abbrev pub is_taken : Reading → Node → Node → Bool
is_taken r target n = is_node_live r n && is_within r target n

-- the states of the target, if it exists, and of each node below it, in the order of `nodes`
abbrev pub snapshot_of : Reading → Node → List NodeState
snapshot_of r target = map (node_state r) (filter (is_taken r target) (nodes r))

---------------------------------------------------------------- the parts from which the code makes a snapshot

-- the target alone, if it is a resource that exists; else no nodes
abbrev pub own_resource : Reading → Node → List Node
own_resource r (node.Object o) = []
own_resource r (node.Resource k) = if has_resource r k then node.Resource k ∷ [] else []

abbrev pub objects_as_nodes : List ObjectNo → List Node
objects_as_nodes os = map node.Object os

-- the states of the live objects among os, in the order of os
abbrev pub live_states : Reading → List ObjectNo → List NodeState
live_states r os = map (node_state r) (filter (is_node_live r) (objects_as_nodes os))

-- the objects are in the order of their numbers, each once
abbrev pub AreAscending : List ObjectNo → Type 0
AreAscending [] = Unit {0}
AreAscending (o ∷ []) = Unit {0}
AreAscending (o ∷ p ∷ ps) = (o.0 < p.0) × AreAscending (p ∷ ps)

-- os are the objects below the target, and the target itself if it is an object, in the order of their numbers
pub record AreBelow (r : Reading) (target : Node) (os : List ObjectNo) : Type 0 where
  pub ascending : AreAscending os
  pub below : (o : ObjectNo) → list_any (same_object o) os ≡ is_within r target (node.Object o)
