-- Which links a change cuts: the links that a new link displaces (EMF: EObjectWithInverse.eInverseRemove, eBasicRemoveFromContainer), the
-- links of the values that an end loses, the links of a proxy that is resolved and of its counterpart, or the links of the objects that a
-- deletion destroys.
use Rattle.std.specs.Prelude.{ℕ, ◌&&◌, ◌||◌, Bool, false, not, List, [], ◌∷◌, ◌++◌, length, map, nat_lt, Option, fold, Some, None, is_some, option_map, option_to_list, slice_get, if◌then◌else◌}
use Rattle.std.specs.List.{list_any}
use Rattle.std.specs.Option.{option_map_or}
use Rattle.mm_types.specs.Same.{node_value, same_end, same_value}
use Rattle.mm_types.specs.declared.numbers.FeatureNo.{FeatureNo}
use Rattle.mm_types.specs.declared.numbers.ObjectNo.{ObjectNo}
use Rattle.mm_types.specs.declared.numbers.Node.{Node}
use Rattle.mm_types.specs.declared.end.End.{End}
use Rattle.mm_types.specs.declared.value.Value.{Value}
use Rattle.mm_types.specs.declared.value.Value.TheVariants as value
use Rattle.removal.specs.declared.link_end.LinkEnd.{LinkEnd}
use Rattle.links.specs.Links.{far_end}
use Rattle.links.specs.Holders.{node_contained}
use Rattle.models.specs.Reading.{Reading, is_repeat, shape_at, first_at, value_at}
use Rattle.removal.specs.TreeLinkEnds.{link_end, tree_link_ends}
use Rattle.handshake.specs.declared.act.Act.{Act}
use Rattle.handshake.specs.declared.change.Change.{Change}
use Rattle.proxies.specs.declared.resolved_proxy.ResolvedProxy.{ResolvedProxy}
use Rattle.proxies.specs.Resolving.{opposite_end, target_at}
use Rattle.handshake.specs.declared.change.Change.TheVariants.{At, Delete}
use Rattle.handshake.specs.declared.act.Act.TheVariants.{Set, Unset, Add, Remove, RemoveValue, Resolve}

-- the link of a value at an end of the node n, named by the other end of the link; none if the link has no other end
abbrev pub other_side : Node → Value → Option FeatureNo → Option LinkEnd
other_side n (value.Object o) (Some g) = Some (link_end (far_end o g) (node_value n))
other_side n _ _ = None

abbrev pub opposite_link_end : Reading → LinkEnd → Option LinkEnd
opposite_link_end r t = other_side t.end.node t.value (shape_at r t.end).opposite

abbrev pub same_link_end : LinkEnd → LinkEnd → Bool
same_link_end t u = same_end t.end u.end && same_value t.value u.value

abbrev pub same_link : Reading → LinkEnd → LinkEnd → Bool
same_link r t u = same_link_end t u || option_map_or (same_link_end t) (opposite_link_end r u) false

-- the links of the values of an end
abbrev pub link_ends_at : Reading → End → List LinkEnd
link_ends_at r e = map (link_end e) (r.values e)

-- the links of the values of an end, from the last value to the first
abbrev pub link_ends_backwards : End → List Value → List LinkEnd
link_ends_backwards e [] = []
link_ends_backwards e (v ∷ vs) = link_ends_backwards e vs ++ link_end e v ∷ []

-- the link of the value at a position of an end; none if no value is there
abbrev pub link_end_in : Reading → End → ℕ → List LinkEnd
link_end_in r e i = option_to_list (option_map (link_end e) (slice_get (r.values e) i))

abbrev pub link_ends_if_single : Reading → End → List LinkEnd
link_ends_if_single r e = if (shape_at r e).is_single then link_ends_at r e else []

-- the link by which a node is contained, named by the end that contains the node; none if the node is not contained
abbrev pub holding_link_end : Reading → Node → Option LinkEnd
holding_link_end r n = option_map (λ d. link_end d (node_value n)) (r.holder n)

-- a list of links to which one more link is appended, unless the list has that link already
abbrev pub with_link_end : Reading → List LinkEnd → LinkEnd → List LinkEnd
with_link_end r ts t = if list_any (same_link r t) ts then ts else ts ++ t ∷ []

-- the list ts with each link once: if ts has several names of one link, only the first name stays
abbrev pub each_link_once : Reading → List LinkEnd → List LinkEnd
each_link_once r ts = fold (with_link_end r) [] ts

-- the links that a new link from e to the object o displaces: the link of the value of e, if e is single; the link of the value of the
-- opposite end, if the opposite end is single; and, if a node becomes contained, the link by which this node was contained so far. A link
-- can be in this list twice, named by each of its ends
abbrev pub in_the_way : Reading → End → ObjectNo → List LinkEnd
in_the_way r e o =
    link_ends_if_single r e
    ++ (option_map_or (link_ends_if_single r) (opposite_end r e o) []
    ++ option_map_or (λ n. option_to_list (holding_link_end r n)) (node_contained e o (shape_at r e).containing) [])

-- whether an end is single and has a link
abbrev pub is_taken : Reading → End → Bool
is_taken r e = (shape_at r e).is_single && nat_lt 0 (length (r.values e))

-- whether a new link from the end e to the object o displaces a link
abbrev pub displaces : Reading → End → ObjectNo → Bool
displaces r e o =
    is_taken r e
    || (option_map_or (is_taken r) (opposite_end r e o) false
    || option_map_or (λ n. is_some (r.holder n)) (node_contained e o (shape_at r e).containing) false)

-- the links that a new link from the end e to the object o displaces, each once
abbrev pub displaced_link_ends : Reading → End → ObjectNo → List LinkEnd
displaced_link_ends r e o = each_link_once r (in_the_way r e o)

---------------------------------------------------------------- changes

-- whether a single end has the value already; an empty end has the value null
abbrev pub has_already : Reading → End → Value → Bool
has_already r e v = same_value v (value_at r e)

-- whether a set neither makes nor cuts a link: the feature is an attribute, or the end has the value already
abbrev pub is_plain_set : Reading → End → Value → Bool
is_plain_set r e v = not (shape_at r e).is_reference || has_already r e v

-- whether an addition makes no link: it is to an attribute, or the list is unique and has the value already
abbrev pub is_plain_add : Reading → End → Value → Bool
is_plain_add r e v = not (shape_at r e).is_reference || is_repeat r e v

abbrev pub cut_by_new : Reading → End → Value → List LinkEnd
cut_by_new r e (value.Object o) = displaced_link_ends r e o
cut_by_new r e v = []

-- the link of the counterpart of a proxy that is resolved; none if the proxy has no counterpart. The counterpart is the proxy of the same
-- link at the opposite end
abbrev pub counter_link_end : Reading → ResolvedProxy → List LinkEnd
counter_link_end r x = option_map_or (λ c. link_end_in r c.end c.index) x.counterpart []

-- the links of the proxy at the index i of the end e, and of its counterpart
abbrev pub link_ends_joined : Reading → End → ℕ → ResolvedProxy → List LinkEnd
link_ends_joined r e i x = link_end_in r e i ++ counter_link_end r x

abbrev pub link_ends_resolved : Reading → End → ℕ → List LinkEnd
link_ends_resolved r e i = link_end_in r e i ++ option_map_or (counter_link_end r) (target_at r e i) []

abbrev pub cut_by_set : Reading → End → Value → List LinkEnd
cut_by_set r e (value.Object o) = displaced_link_ends r e o
cut_by_set r e v = link_ends_at r e

-- the index of the value that a `Remove` or a `RemoveValue` takes out of a list; none for any other act, or if the list lacks the value of
-- a `RemoveValue`
abbrev pub taken_index : Reading → End → Act → Option ℕ
taken_index r e (Remove i) = Some i
taken_index r e (RemoveValue v) = first_at r e v
taken_index r e _ = None

-- the links that a change cuts before it makes or moves any link, in order. For a resolve of all proxies the list is empty, since the edits
-- of each proxy (`edits_of`) begin with the cuts of that proxy's links
abbrev pub cut_link_ends : Reading → Change → List LinkEnd
cut_link_ends r (At e (Set v)) = if is_plain_set r e v then [] else cut_by_set r e v
cut_link_ends r (At e Unset) = if (shape_at r e).is_reference then link_ends_backwards e (r.values e) else []
cut_link_ends r (At e (Add v i)) = if is_plain_add r e v then [] else cut_by_new r e v
cut_link_ends r (At e (Resolve i)) = if (shape_at r e).is_reference then link_ends_resolved r e i else []
cut_link_ends r (At e a) = if (shape_at r e).is_reference then option_map_or (link_end_in r e) (taken_index r e a) [] else []
cut_link_ends r (Delete o) = tree_link_ends r o
cut_link_ends r _ = []
