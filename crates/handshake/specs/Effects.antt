-- The values and the links after a change.
use Rattle.std.specs.Prelude.{ℕ, Bool, false, List, [], ◌∷◌, fold, length, map, Option, Some, None, unwrap_or, if◌then◌else◌}
use Rattle.std.specs.Option.{option_map_or}
use Rattle.mm_types.specs.declared.numbers.FeatureNo.{FeatureNo}
use Rattle.mm_types.specs.declared.numbers.ObjectNo.{ObjectNo}
use Rattle.mm_types.specs.declared.numbers.Node.{Node}
use Rattle.mm_types.specs.declared.numbers.Node.TheVariants as node
use Rattle.mm_types.specs.declared.end.End.{End}
use Rattle.mm_types.specs.declared.value.Value.{Value}
use Rattle.mm_types.specs.declared.value.Value.TheVariants as value
use Rattle.mm_values.specs.Values.{values_after_edits}
use Rattle.mm_values.specs.declared.value_edit.ValueEdit.{ValueEdit}
use Rattle.mm_values.specs.declared.value_edit.ValueEdit.TheVariants.{NewObject, DropObject, PutList, InsertValue, RemoveValue as TakeValue, MoveValue, NewUri}
use Rattle.links.specs.Links.{Links, cut_value, end, put, shift, without_nodes}
use Rattle.models.specs.Reading.{Reading, first_at, is_repeat, position_for, shape_at}
use Rattle.models.specs.Model.{Model, reading}
use Rattle.containment.specs.Forest.{subtree}
use Rattle.removal.specs.Outer.{is_in_subtree}
use Rattle.handshake.specs.declared.act.Act.{Act}
use Rattle.handshake.specs.declared.change.Change.{Change}
use Rattle.handshake.specs.declared.change.Change.TheVariants.{At, Create, Delete, NewResource, ResolveAll, Load}
use Rattle.handshake.specs.declared.act.Act.TheVariants.{Set, Unset, Add, Move, Resolve}
use Rattle.proxies.specs.declared.resolved_proxy.Counterpart.{Counterpart}
use Rattle.proxies.specs.declared.resolved_proxy.ResolvedProxy.{ResolvedProxy}
use Rattle.removal.specs.declared.link_end.LinkEnd.{LinkEnd}
use Rattle.doc_loader.specs.Loading.{loaded_links, loaded_values, with_links}
use Rattle.handshake.specs.Displaced.{cut_link_ends, is_plain_add, is_plain_set, link_ends_joined, taken_index}
use Rattle.handshake.specs.FeatureChanges.{destroyed_by}
use Rattle.proxies.specs.Proxies.{end_of, sites}
use Rattle.proxies.specs.ResolvingAll.{Resolution, resolutions}
use Rattle.proxies.specs.Resolving.{target_at}

---------------------------------------------------------------- values

-- the edit that gives an attribute of a node new values and a set flag; none for a resource, which has no attributes
abbrev pub put_under : FeatureNo → List Value → Bool → Node → List ValueEdit
put_under f vs flag (node.Object o) = PutList o f vs flag ∷ []
put_under f vs flag (node.Resource k) = []

abbrev pub put_values : End → List Value → Bool → List ValueEdit
put_values e vs flag = put_under e.feature vs flag e.node

-- the edits `edits` if the feature of the end is an attribute, and otherwise none
abbrev pub if_attribute : Reading → End → List ValueEdit → List ValueEdit
if_attribute r e edits = if (shape_at r e).is_reference then [] else edits

-- the edit of an object's attribute; none for a resource, which has no attributes
abbrev pub of_object : Node → (ObjectNo → ValueEdit) → List ValueEdit
of_object (node.Object o) edit = edit o ∷ []
of_object (node.Resource k) edit = []

abbrev pub add_value : Reading → End → Value → Option ℕ → List ValueEdit
add_value r e v i =
    if is_repeat r e v then [] else of_object e.node (λ o. InsertValue o e.feature (position_for r e i) v (shape_at r e).is_unique)

abbrev pub take_value : End → ℕ → List ValueEdit
take_value e i = of_object e.node (λ o. TakeValue o e.feature i)

abbrev pub take_first : Reading → End → Value → List ValueEdit
take_first r e v = option_map_or (take_value e) (first_at r e v) []

-- the edits that an act makes to the values of an attribute
abbrev pub act_edits : Reading → End → Act → List ValueEdit
act_edits r e (Set v) = put_values e (v ∷ []) (shape_at r e).is_unsettable
act_edits r e Unset = put_values e [] false
act_edits r e (Add v i) = add_value r e v i
act_edits r e (Move to from) = of_object e.node (λ o. MoveValue o e.feature to from)
act_edits r e a = option_map_or (take_value e) (taken_index r e a) []

abbrev pub value_edits : Reading → Change → List ValueEdit
value_edits r (At e (Resolve i)) = []
value_edits r (At e a) = if_attribute r e (act_edits r e a)
value_edits r (Create c) = NewObject c ∷ []
value_edits r (Delete o) = map DropObject (subtree r o)
value_edits r (NewResource u) = NewUri u ∷ []
value_edits r (Load k doc) = loaded_values r.metamodel r.next doc
value_edits r _ = []

---------------------------------------------------------------- links

abbrev pub without_link_ends : Links → List LinkEnd → Links
without_link_ends s ts = fold (λ t x. cut_value t x.end x.value) s ts

-- the links after an object is put into an end, at a position or after the last value; a value that is no object is not put
abbrev pub with_value : Links → Reading → End → Option ℕ → Value → Links
with_value s r e i (value.Object o) = put s e (unwrap_or i (length (end s e))) o (shape_at r e).opposite (shape_at r e).containing
with_value s r e i v = s

-- the links after a new link is moved within the counterpart's end: from the index n, which is the last one, to the index of the
-- counterpart
abbrev pub put_back : Links → ℕ → Counterpart → Links
put_back s n c = shift s c.end c.index n

-- the links after the proxy at the position i of the end e is resolved to the object of x. In s, this proxy and its counterpart at the
-- opposite end, if there is one, are cut already. The new link gets the position of the proxy at e, and the position of the counterpart at
-- the opposite end
abbrev pub links_after_join : Links → Reading → End → ℕ → ResolvedProxy → Links
links_after_join s r e i x =
    let t = with_value s r e (Some i) (value.Object x.object) in
    option_map_or (λ c. put_back t (length (end s c.end)) c) x.counterpart t

-- the links after one proxy is resolved, as one step of a resolve of all proxies
abbrev pub with_resolution : Links → Resolution → Links
with_resolution s x =
    let e = end_of x.site in
    links_after_join (without_link_ends s (link_ends_joined x.reads e x.site.index x.target)) x.reads e x.site.index x.target

-- the links after a change made its links or moved a value in a list; s has the links after the cuts of the change
abbrev pub put_by : Links → Reading → Change → Links
put_by s r (At e (Set v)) = if is_plain_set r e v then s else with_value s r e None v
put_by s r (At e (Add v i)) = if is_plain_add r e v then s else with_value s r e i v
put_by s r (At e (Move to from)) = if (shape_at r e).is_reference then shift s e to from else s
put_by s r (At e (Resolve i)) = option_map_or (links_after_join s r e i) (target_at r e i) s
put_by s r ResolveAll = fold with_resolution s (resolutions r (sites r))
put_by s r (Load k doc) = with_links s (loaded_links r.metamodel r.next k doc)
put_by s r _ = s

-- the links that are left after the cuts of a change: a deletion cuts all links that name a destroyed object, and any other change cuts the
-- links of `cut_link_ends`
abbrev pub links_left : Links → Reading → Change → Links
links_left s r c = option_map_or (λ o. without_nodes s (is_in_subtree r o)) (destroyed_by c) (without_link_ends s (cut_link_ends r c))

abbrev pub links_after : Links → Reading → Change → Links
links_after s r c = put_by (links_left s r c) r c

---------------------------------------------------------------- both

abbrev pub model_after : Model → Change → Model
model_after s c = record s { values = values_after_edits s.values (value_edits (reading s) c); links = links_after s.links (reading s) c }
