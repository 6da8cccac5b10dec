-- The topmost node among a node and the nodes above it, and the resource that an object is in. Both are computed from a function `up`,
-- which gives the nodes above a node, the nearest first.
use Rattle.std.specs.Prelude.{List, Option, Some, None, unwrap_or}
use Rattle.std.specs.List.{last_or}
use Rattle.mm_types.specs.declared.numbers.ObjectNo.{ObjectNo}
use Rattle.mm_types.specs.declared.numbers.ResourceNo.{ResourceNo}
use Rattle.mm_types.specs.declared.numbers.Node.{Node}
use Rattle.mm_types.specs.declared.numbers.Node.TheVariants as node

-- the topmost node among a node and the nodes above it
abbrev pub root_of : (Node → List Node) → Node → Node
root_of up n = unwrap_or (last_or (Some n) (up n)) n

-- the number of a node that is a resource; none for an object
abbrev pub resource_of_node : Node → Option ResourceNo
resource_of_node (node.Object o) = None
resource_of_node (node.Resource r) = Some r

-- the resource that an object is in, directly or below other objects; none if it is in no resource
abbrev pub resource_of : (Node → List Node) → ObjectNo → Option ResourceNo
resource_of up o = resource_of_node (root_of up (node.Object o))
