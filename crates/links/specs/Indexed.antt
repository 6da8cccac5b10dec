-- The positions of a link at its ends, and its values there.
use Rattle.std.specs.Prelude.{ℕ, Bool, false, Option, Some, None, if◌then◌else◌}
use Rattle.std.specs.Option.{option_map_or}
use Rattle.mm_types.specs.Same.{node_value, same_end, same_value}
use Rattle.mm_types.specs.declared.end.End.{End}
use Rattle.mm_types.specs.declared.value.Value.{Value}
use Rattle.mm_types.specs.declared.value.Value.TheVariants as value
use Rattle.links.specs.declared.link.Far.{Far}
use Rattle.links.specs.declared.link.Far.TheVariants.{At, Alone, Proxy}
use Rattle.links.specs.declared.link.Link.{Link}

-- the value that a link has in its near end: the node of its far end, its object or its proxy
abbrev pub far_value : Far → Value
far_value (At d j) = node_value d.node
far_value (Alone o) = value.Object o
far_value (Proxy t) = value.Proxy t

-- the position that the far side of a link has in the end e, together with the value v; none if the far side is not in e
abbrev pub far_indexed : Far → Value → End → Option (ℕ × Value)
far_indexed (At d j) v e = if same_end d e then Some (j, v) else None
far_indexed (Alone o) v e = None
far_indexed (Proxy t) v e = None

-- the position and the value that a link has in the end e; none if the link is not in e
abbrev pub indexed_value : Link → End → Option (ℕ × Value)
indexed_value l e = if same_end l.end e then Some (l.index, far_value l.far) else far_indexed l.far (node_value l.end.node) e

-- whether p, an optional pair of a position and a value, is present and has the value v
abbrev pub is_value_at : Value → Option (ℕ × Value) → Bool
is_value_at v p = option_map_or (λ q. same_value q.1 v) p false

-- whether a link is in the end e with the value v
abbrev pub has_value : End → Value → Link → Bool
has_value e v l = is_value_at v (indexed_value l e)

-- the far side of a link with its position in the end e changed by the function r; the same far side if it is not in e
abbrev pub far_moved : Far → End → (ℕ → ℕ) → Far
far_moved (At d j) e r = if same_end d e then At d (r j) else At d j
far_moved (Alone o) e r = Alone o
far_moved (Proxy t) e r = Proxy t

-- the link l with its position in the end e changed by the function r; the same link if l is not in e
abbrev pub renumbered_link : Link → End → (ℕ → ℕ) → Link
renumbered_link l e r = if same_end l.end e then record l { index = r l.index } else record l { far = far_moved l.far e r }

abbrev pub bare_far : Far → Far
bare_far (At d j) = At d 0
bare_far (Alone o) = Alone o
bare_far (Proxy t) = Proxy t

-- the link with each of its positions set to 0; edits of other links change only positions, so they do not change the result of this
-- function
abbrev pub link_without_positions : Link → Link
link_without_positions l = record { end = l.end; index = 0; far = bare_far l.far; container = l.container }
