-- The feature changes that a change makes, in the order of their notifications, and the chain of these notifications.
use Rattle.std.specs.Prelude.{ℕ, zero, suc, ◌&&◌, ◌||◌, Bool, true, false, not, List, [], ◌∷◌, ◌++◌, filter, flat_map, length, map, Option, Some, None, option_to_list, if◌then◌else◌}
use Rattle.std.specs.Option.{option_map_or}
use Rattle.mm_types.specs.Same.{node_value, same_end}
use Rattle.mm_types.specs.Shapes.{is_containment}
use Rattle.mm_types.specs.declared.numbers.Node.TheVariants as node
use Rattle.mm_types.specs.declared.numbers.ObjectNo.{ObjectNo}
use Rattle.mm_types.specs.declared.numbers.ResourceNo.{ResourceNo}
use Rattle.mm_types.specs.declared.end.End.{End}
use Rattle.mm_types.specs.declared.value.Value.{Value}
use Rattle.mm_types.specs.declared.value.Value.TheVariants as value
use Rattle.notice_chain.specs.declared.notice.Notice.{Notice}
use Rattle.models.specs.Reading.{Reading, contents_end, first_at, held_at, is_repeat, shape_at}
use Rattle.resource_docs.specs.declared.doc.Doc.{Doc}
use Rattle.doc_loader.specs.Loading.{roots_loaded}
use Rattle.removal.specs.Losses.{is_lost}
use Rattle.removal.specs.Outer.{touched_ends}
use Rattle.handshake.specs.declared.change.Change.{Change}
use Rattle.handshake.specs.declared.change.Change.TheVariants.{At, Delete, ResolveAll, Load}
use Rattle.handshake.specs.declared.act.Act.TheVariants.{Set, Unset, Add, Move, Resolve}
use Rattle.handshake.specs.declared.change_kind.ChangeKind.TheVariants.{Gains, GainsAt, Loses, LosesAt, Unsets, Moves, Resolves}
use Rattle.handshake.specs.declared.change_kind.ChangeKind.{ChangeKind}
use Rattle.handshake.specs.declared.change_kind.FeatureChange.{FeatureChange}
use Rattle.proxies.specs.declared.resolved.Resolved.{Resolved}
use Rattle.proxies.specs.declared.resolved_proxy.ResolvedProxy.{ResolvedProxy}
use Rattle.removal.specs.declared.link_end.LinkEnd.{LinkEnd}
use Rattle.handshake.specs.Displaced.{cut_link_ends, is_plain_set, opposite_link_end, taken_index}
use Rattle.proxies.specs.Proxies.{end_of, sites}
use Rattle.proxies.specs.ResolvingAll.{Resolution, resolutions, resolved_count, unresolved_count}
use Rattle.proxies.specs.Resolving.{opposite_end, target_at}
use Rattle.handshake.specs.FeatureChange.{change_notices, feature_change}

---------------------------------------------------------------- links

abbrev pub loss : LinkEnd → FeatureChange
loss t = feature_change t.end (Loses t.value)

-- the loss at each end of a link; a loss at a containment comes first
abbrev pub losses : Reading → LinkEnd → List FeatureChange
losses r t =
    option_map_or (λ u. if is_containment r.metamodel u.end.feature then loss u ∷ loss t ∷ [] else loss t ∷ loss u ∷ []) (opposite_link_end r t) (loss t ∷ [])

-- the loss at the far end of the link that t names; none if the link has no far end. The far end is the end by which t does not name the
-- link. And `far_losses`: the losses at the far ends of several links
abbrev pub far_loss : Reading → LinkEnd → List FeatureChange
far_loss r t = option_map_or (λ u. loss u ∷ []) (opposite_link_end r t) []

abbrev pub far_losses : Reading → List LinkEnd → List FeatureChange
far_losses r ts = flat_map (far_loss r) ts

-- whether a new link from the end e to the object o replaces the value of the end d: d is single, and is an end of the new link
abbrev pub is_replaced : Reading → End → ObjectNo → End → Bool
is_replaced r e o d = (shape_at r d).is_single && (same_end e d || option_map_or (same_end d) (opposite_end r e o) false)

-- the losses at the ends of the link t, which a new link from the end e to the object o displaces; a loss is left out if the new link
-- replaces the lost value
abbrev pub other_losses : Reading → End → ObjectNo → LinkEnd → List FeatureChange
other_losses r e o t = filter (λ x. not (is_replaced r e o x.at)) (losses r t)

abbrev pub far_gain : Reading → End → ObjectNo → List FeatureChange
far_gain r e o = option_map_or (λ d. feature_change d (Gains (node_value e.node)) ∷ []) (opposite_end r e o) []

-- the losses of a list of a given length: the list loses each value, from the last to the first
abbrev pub all_lost : End → ℕ → List FeatureChange
all_lost e zero = []
all_lost e (suc n) = feature_change e (LosesAt n) ∷ all_lost e n

---------------------------------------------------------------- changes

-- the feature changes that come before the end e gains a value; ts are the links that are cut. If the value is an object, these changes are
-- the losses of the displaced links (`other_losses`), and then the gain at the far end of the new link, if the link has a far end. If the
-- value is no object, these changes are the losses at the far ends of ts
abbrev pub before_gain : Reading → End → Value → List LinkEnd → List FeatureChange
before_gain r e (value.Object o) ts = flat_map (other_losses r e o) ts ++ far_gain r e o
before_gain r e v ts = far_losses r ts

-- a gain of a list: after its last value, or at an index
abbrev pub gain_at : Option ℕ → Value → ChangeKind
gain_at None v = Gains v
gain_at (Some i) v = GainsAt i v

-- the losses at the far ends of the links ts, which are cut, and then the loss at the index i of the end e
abbrev pub changes_of_remove : Reading → End → List LinkEnd → ℕ → List FeatureChange
changes_of_remove r e ts i = far_losses r ts ++ feature_change e (LosesAt i) ∷ []

-- the losses when the first occurrence of a value is taken out of the list e; none if the list lacks the value
abbrev pub changes_of_remove_value : Reading → End → List LinkEnd → Value → List FeatureChange
changes_of_remove_value r e ts v = option_map_or (changes_of_remove r e ts) (first_at r e v) []

abbrev pub changes_of_unset : Reading → End → List FeatureChange
changes_of_unset r e = if (shape_at r e).is_single then feature_change e Unsets ∷ [] else all_lost e (length (r.values e))

abbrev pub changes_of_set : Reading → End → Value → List LinkEnd → List FeatureChange
changes_of_set r e v ts = (if is_plain_set r e v then [] else before_gain r e v ts) ++ feature_change e (Gains v) ∷ []

-- the feature changes of an addition; none if the list is unique and has the value already
abbrev pub changes_of_add : Reading → End → Value → Option ℕ → List LinkEnd → List FeatureChange
changes_of_add r e v i ts = if is_repeat r e v then [] else before_gain r e v ts ++ feature_change e (gain_at i v) ∷ []

-- the object that a change deletes; the change destroys all objects below it too
abbrev pub destroyed_by : Change → Option ObjectNo
destroyed_by (Delete o) = Some o
destroyed_by _ = None

-- whether a change resolves one proxy
abbrev pub resolves_one : Change → Bool
resolves_one (At e (Resolve i)) = true
resolves_one _ = false

-- the target of the proxy that a `Resolve` resolves; none for any other change, or if the proxy has no target
abbrev pub target_of : Reading → Change → Option ResolvedProxy
target_of r (At e (Resolve i)) = target_at r e i
target_of r _ = None

-- the document that a change loads
abbrev pub loaded_by : Change → Option Doc
loaded_by (Load k doc) = Some doc
loaded_by _ = None

-- whether a change resolves all proxies
abbrev pub resolves_all : Change → Bool
resolves_all ResolveAll = true
resolves_all _ = false

-- for a change that resolves all proxies: how many proxies it resolves (two proxies of one link count as one), and how many proxies are
-- left
abbrev pub resolved_by : Reading → Change → Option Resolved
resolved_by r c = if resolves_all c then Some (record { done = resolved_count r; left = unresolved_count r }) else None

-- the losses at the end d of a node that remains, in order, when the object o and all objects below o are destroyed. The loss of o itself,
-- at the end that contains o, is not among them: it comes last in `changes_of_delete`
abbrev pub lost_with : Reading → ObjectNo → End → List FeatureChange
lost_with r o d = map (λ v. feature_change d (Loses v)) (filter (is_lost r o d) (r.values d))

-- the losses of a deletion: first those at the ends of the nodes that remain, end by end, and last the loss of the object itself at the end
-- that contains it
abbrev pub changes_of_delete : Reading → ObjectNo → List FeatureChange
changes_of_delete r o =
    flat_map (lost_with r o) (touched_ends r o)
    ++ map (λ d. feature_change d (Loses (value.Object o))) (option_to_list (r.holder (node.Object o)))

-- the list of a resource's roots gains each root of a document, in order
abbrev pub changes_of_load : Reading → ResourceNo → Doc → List FeatureChange
changes_of_load r k doc = map (λ v. feature_change (contents_end r.metamodel k) (Gains v)) (roots_loaded r.next doc)

-- the feature changes of a resolve: first the proxy at the opposite end, if there is one, is resolved, and then the proxy at the index i of
-- the end e
abbrev pub changes_of_resolve : End → ℕ → ResolvedProxy → List FeatureChange
changes_of_resolve e i x =
    option_map_or (λ c. feature_change c.end (Resolves c.index (node_value e.node)) ∷ []) x.counterpart []
    ++ feature_change e (Resolves i (value.Object x.object)) ∷ []

-- the feature changes of one resolved proxy among several
abbrev pub resolution_told : Resolution → List FeatureChange
resolution_told x = changes_of_resolve (end_of x.site) x.site.index x.target

-- the feature changes of a change that cuts the links ts
abbrev pub feature_changes_with : Reading → Change → List LinkEnd → List FeatureChange
feature_changes_with r (At e (Set v)) ts = changes_of_set r e v ts
feature_changes_with r (At e Unset) ts = far_losses r ts ++ changes_of_unset r e
feature_changes_with r (At e (Add v i)) ts = changes_of_add r e v i ts
feature_changes_with r (At e (Move to from)) ts = feature_change e (Moves to from) ∷ []
feature_changes_with r (At e (Resolve i)) ts = option_map_or (changes_of_resolve e i) (target_at r e i) []
feature_changes_with r (At e a) ts = option_map_or (changes_of_remove r e ts) (taken_index r e a) []
feature_changes_with r (Delete o) ts = changes_of_delete r o
feature_changes_with r ResolveAll ts = flat_map resolution_told (resolutions r (sites r))
feature_changes_with r (Load k doc) ts = changes_of_load r k doc
feature_changes_with r _ ts = []

abbrev pub feature_changes : Reading → Change → List FeatureChange
feature_changes r c = feature_changes_with r c (cut_link_ends r c)

-- the notifications of a change, in order
abbrev pub chain : Reading → Change → List Notice
chain r c = change_notices r.metamodel (held_at r) (feature_changes r c)
