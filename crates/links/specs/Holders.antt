-- Which end contains a node, and which nodes are above a node: the containment forest (MOF 2.5.1: Element.container).
use Rattle.std.specs.Prelude.{◌≡◌, ℕ, zero, suc, ◌&&◌, Bool, false, List, [], ◌∷◌, Option, Some, None, option_and_then, if◌then◌else◌}
use Rattle.std.specs.Option.{option_or, option_map_or}
use Rattle.std.specs.FinSet as set
use Rattle.mm_types.specs.Same.{same_feature, same_node}
use Rattle.mm_types.specs.declared.numbers.FeatureNo.{FeatureNo}
use Rattle.mm_types.specs.declared.numbers.ObjectNo.{ObjectNo}
use Rattle.mm_types.specs.declared.numbers.Node.{Node}
use Rattle.mm_types.specs.declared.numbers.Node.TheVariants as node
use Rattle.mm_types.specs.declared.end.End.{End}
use Rattle.links.specs.declared.link.Far.{Far}
use Rattle.links.specs.declared.link.Far.TheVariants.{At, Alone, Proxy}
use Rattle.links.specs.declared.link.Link.{Link}
use Rattle.links.specs.Links.{Links, far_end}

-- whether the far side of a link is the node n
abbrev pub is_far_node : Far → Node → Bool
is_far_node (At d j) n = same_node d.node n
is_far_node (Alone o) n = same_node (node.Object o) n
is_far_node (Proxy t) n = false

-- the far end d of a link, if d contains the node n; else none. d contains n if the feature of d is the containing feature h, and n is the
-- node `near` of the near end
abbrev pub far_holding : Far → FeatureNo → Node → Node → Option End
far_holding (At d j) h near n = if same_feature d.feature h && same_node near n then Some d else None
far_holding (Alone o) h near n = None
far_holding (Proxy t) h near n = None

abbrev pub held_through : Option FeatureNo → Link → Node → Option End
held_through None l n = None
held_through (Some h) l n =
    if same_feature l.end.feature h
    then (if is_far_node l.far n then Some l.end else None)
    else far_holding l.far h l.end.node n

-- the end that contains the node n by the link l; none if l does not contain n
abbrev pub holding_end : Link → Node → Option End
holding_end l n = held_through l.container l n

-- the end that contains the node n by the first link that contains n; none if no link of the list contains n
abbrev pub first_holding : List Link → Node → Option End
first_holding [] n = None
first_holding (l ∷ ls) n = option_or (holding_end l n) (first_holding ls n)

-- the end that contains the node n; none if no end contains n
unfoldable pub holder : Links → Node → Option End
holder s n = first_holding (set.items s) n

-- the node that becomes contained when the object o is put into the end e; none if there is no containing feature. If the containing
-- feature h is e's feature, o becomes contained; if h is the opposite of e's feature, e's node becomes contained
abbrev pub node_contained : End → ObjectNo → Option FeatureNo → Option Node
node_contained e o None = None
node_contained e o (Some h) = Some (if same_feature h e.feature then node.Object o else e.node)

-- the end that contains the node that `node_contained` gives, after the object o is put into the end e; none if there is no containing
-- feature
abbrev pub end_containing : End → ObjectNo → Option FeatureNo → Option End
end_containing e o None = None
end_containing e o (Some h) = Some (if same_feature h e.feature then e else far_end o h)

---------------------------------------------------------------- above

-- the nodes above the node n, the nearest first, at most a given number of them; `up` gives the end that contains a node
abbrev pub nearest_nodes_above : (Node → Option End) → ℕ → Node → List Node
nearest_nodes_above up zero n = []
nearest_nodes_above up (suc k) n = option_map_or (λ (e : End). e.node ∷ nearest_nodes_above up k e.node) (up n) []

-- the nodes above the node n, the nearest first, at most as many as there are links. In a legal set without a cycle these are all nodes
-- above n, since no chain of holders is longer than the number of links (`IsForest`)
unfoldable pub above : Links → Node → List Node
above s n = nearest_nodes_above (holder s) (set.len s) n

-- the node that is reached from the node x by a given number of steps; each step goes from a node to the node of its holder. None if a step
-- begins at a node without a holder
abbrev pub climb : Links → ℕ → Node → Option Node
climb s zero x = Some x
climb s (suc n) x = option_and_then (λ (e : End). climb s n e.node) (holder s x)

-- the node y is reached from the node x by one or more steps of `climb`
abbrev pub IsUnder : Links → Node → Node → Type 0
IsUnder s x y = (n : ℕ) × (climb s (suc n) x ≡ Some y)

-- no node is under itself
abbrev pub HasNoCycle : Links → Type 0
HasNoCycle s = (x : Node) → IsUnder s x x → ⊥

-- no chain of holders is longer than the number of links
abbrev pub IsForest : Links → Type 0
IsForest s = (x : Node) → climb s (suc (set.len s)) x ≡ None
