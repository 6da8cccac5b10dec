-- The list of links of a `RowStore`; each link of the list is a row. Here are the values, positions and ends that a scan of the list finds,
-- and how a link is renumbered.
use Rattle.std.specs.Prelude.{ℕ, ◌+◌, ◌<◌, ◌^◌, ⊤, ◌++◌, ◌==◌, Bool, true, false, List, [], ◌∷◌, fold, insert, Option, Some, None, MatchOption, option_and_then, if◌then◌else◌}
use Rattle.std.specs.Option.{option_map, option_map_or}
use Rattle.std.specs.List.{prefix_len}
use Rattle.mm_types.specs.Same.{same_node}
use Rattle.mm_types.specs.declared.numbers.Node.{Node}
use Rattle.mm_types.specs.declared.numbers.ObjectNo.{ObjectNo}
use Rattle.mm_types.specs.declared.end.End.{End}
use Rattle.mm_types.specs.declared.value.Value.{Value}
use Rattle.links.specs.declared.incoming.Incoming.{Incoming}
use Rattle.links.specs.declared.link.Far.{Far}
use Rattle.links.specs.declared.link.Far.TheVariants.{At, Alone, Proxy}
use Rattle.links.specs.declared.link.Link.{Link}
use Rattle.link_store.specs.declared.renumbering.Renumbering.{Renumbering}
use Rattle.link_store.specs.declared.renumbering.Renumbering.TheVariants.{Raise, Lower, Shift}
use Rattle.link_store.specs.declared.rows.LinkPositions.{LinkPositions}
use Rattle.links.specs.Holders.{is_far_node}
use Rattle.links.specs.Found.{entries_by}
use Rattle.links.specs.Links.{lower, object_of, raise, shifted_index, text_of}
use Rattle.links.specs.Indexed.{has_value, indexed_value}

abbrev pub changed_index : Renumbering → ℕ → ℕ
changed_index (Raise i) k = raise i k
changed_index (Lower i) k = lower i k
changed_index (Shift to from) k = shifted_index to from k

-- the position k is so small that the position after the renumbering fits 32 bits; for `Lower`, any k
abbrev pub CanChange : Renumbering → ℕ → Type 0
CanChange (Raise i) k = k + 1 < 2 ^ 32
CanChange (Lower i) k = ⊤
CanChange (Shift to from) k = k + 1 < 2 ^ 32

-- if the link is in the end e, its position there is so small that the position after the renumbering r fits 32 bits (`CanChange`)
abbrev pub CanMove : Renumbering → End → Link → Type 0
CanMove r e l = MatchOption (indexed_value l e) ⊤ (λ p. CanChange r p.0)

abbrev pub index_of : Option (ℕ × Value) → Option ℕ
index_of p = option_map (λ q. q.0) p

-- the position in the end e of the first link that has the value v in e; none if no link has v in e
abbrev pub position_in : List Link → End → Value → Option ℕ
position_in [] e v = None
position_in (l ∷ ls) e v = if has_value e v l then index_of (indexed_value l e) else position_in ls e v

-- whether the position in p is k; false if p is none. Here and below, p is the position and the value that a link has in an end, or none if
-- the link is not in the end
abbrev pub is_index : ℕ → Option (ℕ × Value) → Bool
is_index k p = option_map_or (λ q. q.0 == k) p false

-- the object that is the value in p, an optional pair of a position and a value; none if p is none, or if the value is no object
abbrev pub object_on : Option (ℕ × Value) → Option ObjectNo
object_on p = option_and_then (λ (q : ℕ × Value). object_of q.1) p

-- the object at position k of the end e: the value that the first link with this position in e has there. None if no link has this
-- position, or if the value is no object
abbrev pub first_object : List Link → End → ℕ → Option ObjectNo
first_object [] e k = None
first_object (l ∷ ls) e k = if is_index k (indexed_value l e) then object_on (indexed_value l e) else first_object ls e k

-- the text of the proxy that is the value in p, an optional pair of a position and a value; none if p is none, or if the value is no proxy
abbrev pub text_on : Option (ℕ × Value) → Option (List ℕ)
text_on p = option_and_then (λ (q : ℕ × Value). text_of q.1) p

-- the text of the proxy at position k of the end e; the proxy is the value that the first link with this position in e has there. None if
-- no link has this position, or if the value is no proxy
abbrev pub first_text : List Link → End → ℕ → Option (List ℕ)
first_text [] e k = None
first_text (l ∷ ls) e k = if is_index k (indexed_value l e) then text_on (indexed_value l e) else first_text ls e k

abbrev pub far_position : Far → Option (End × ℕ)
far_position (At d j) = Some (d, j)
far_position (Alone o) = None
far_position (Proxy t) = None

-- the positions of a link
abbrev pub positions : Link → LinkPositions
positions l = record { end = l.end; index = l.index; far = far_position l.far }

---------------------------------------------------------------- the ends that have a node

abbrev pub if_end : Bool → End → List End
if_end true e = e ∷ []
if_end false e = []

abbrev pub far_ends_to : Node → Far → Node → List End
far_ends_to near (At d j) n = if_end (same_node near n) d
far_ends_to near (Alone o) n = []
far_ends_to near (Proxy t) n = []

-- the ends in which a link has the node n as its value
abbrev pub ends_to : Link → Node → List End
ends_to l n = if_end (is_far_node l.far n) l.end ++ far_ends_to l.end.node l.far n

abbrev pub ends_with : List Link → Node → List End
ends_with [] n = []
ends_with (l ∷ ls) n = ends_to l n ++ ends_with ls n

-- the ends of the list es in which a link of ls has the value v, each with the position of v there. If several links have the value v in an
-- end, the first of them in ls gives the position
abbrev pub places_in : List Link → List End → Value → List Incoming
places_in ls es v = entries_by (λ e. position_in ls e v) es
