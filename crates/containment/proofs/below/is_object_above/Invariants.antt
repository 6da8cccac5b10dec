use Rattle.std.proofs.Common.{◌≡◌, length}
use Rattle.std.specs.List.{list_any}
use Rattle.mm_types.specs.Same.{same_node}
use Rattle.mm_types.specs.declared.numbers.Node.TheVariants as node
use Rattle.models.specs.Model.{reading}
use Rattle.containment.specs.Forest.{is_node_among, subtree}
use Rattle.containment.specs.Waiting.{waiting_objects}
use Rattle.std.specs.Prelude.{flat_map}
use Rattle.containment.proofs.below.is_object_above.Given as goal

-- in both searches, the nodes that are left to look at decide whether the object is above the node
abbrev pub invariant-loop-next : goal.invariant-loop-next
invariant-loop-next g l =
    let over = list_any (same_node (node.Object l.fn.object)) in
    (over ((reading l.model).above l.at) ≡ over ((reading l.model).above l.fn.node))
    × (is_node_among (flat_map (subtree (reading l.model)) (waiting_objects l.waiting.items)) l.fn.node ≡ over ((reading l.model).above l.fn.node))

abbrev pub decreases-loop-next : goal.decreases-loop-next
decreases-loop-next g l = length ((reading l.model).above l.at)
