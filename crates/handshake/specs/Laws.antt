-- Laws on changes. All of them but `KeepsSteady` require that the model is legal and that the change is not refused (`OfAllowed`).
use Rattle.std.specs.Prelude.{◌≡◌, ◌&&◌, ◌||◌, ℕ, Bool, false, not, nat_le, IsFalse, List, [], ◌∷◌, ◌++◌, filter, None, is_some}
use Rattle.std.specs.List.{AllByRecursion}
use Rattle.std.specs.Option.{option_map_or}
use Rattle.mm_types.specs.Resolved.{Metamodel}
use Rattle.mm_types.specs.Shapes.{shape}
use Rattle.mm_types.specs.declared.end.End.{End}
use Rattle.mm_types.specs.declared.numbers.Node.{Node}
use Rattle.mm_types.specs.declared.numbers.Node.TheVariants as node
use Rattle.web_uris.specs.Joined.{IsJoined, IsWebUri}
use Rattle.resource_docs.specs.Causes.{HasSteadyProxies}
use Rattle.models.specs.Legal.{IsLegal}
use Rattle.models.specs.Model.{Model, reading}
use Rattle.models.specs.Reading.{Reading, held_at, shape_at}
use Rattle.models.specs.Steady.{HasSteadyTexts}
use Rattle.removal.specs.Outer.{is_in_subtree}
use Rattle.notice_chain.specs.Replay.{ends_after_notices}
use Rattle.handshake.specs.declared.change.Change.{Change}
use Rattle.handshake.specs.declared.change.Change.TheVariants.{At, Load, NewResource}
use Rattle.handshake.specs.declared.act.Act.TheVariants.{Unset}
use Rattle.handshake.specs.declared.change_kind.ChangeKind.TheVariants.{Unsets}
use Rattle.handshake.specs.declared.change_kind.FeatureChange.{FeatureChange}
use Rattle.removal.specs.declared.link_end.LinkEnd.{LinkEnd}
use Rattle.handshake.specs.Displaced.{cut_link_ends, same_link}
use Rattle.handshake.specs.Effects.{model_after}
use Rattle.handshake.specs.Changes.{HasReadDocument}
use Rattle.handshake.specs.Refusals.{early_refusal, late_refusal}
use Rattle.handshake.specs.FeatureChange.{has_flag, feature_change}
use Rattle.handshake.specs.FeatureChanges.{chain, destroyed_by, far_losses, feature_changes, loaded_by, resolves_all}

-- `Holds` is true of a change of a model, if the model is legal and the change is not refused
abbrev pub OfAllowed : (Model → Change → Type 0) → Model → Change → Type 0
OfAllowed Holds s c = IsLegal s → early_refusal (reading s) c ≡ None → late_refusal (reading s) c ≡ None → Holds s c

-- if a change makes a resource, the URI of the resource is a result of joining
abbrev pub IsBrought : Change → Type 0
IsBrought (NewResource u) = IsJoined u
IsBrought _ = Unit {0}

-- the model after a change is legal, if the document of a load was read, and the URI of a new resource is a result of joining
abbrev pub KeepsLegal : Model → Change → Type 0
KeepsLegal = OfAllowed (λ s c. HasReadDocument s.metamodel c → IsBrought c → IsLegal (model_after s c))

-- the URIs that a change adds are normalised: the URI of a new resource, and the URIs of the proxies of a document
abbrev pub BringsSteadyTexts : Change → Type 0
BringsSteadyTexts (NewResource u) = IsWebUri u
BringsSteadyTexts (Load k doc) = HasSteadyProxies doc
BringsSteadyTexts _ = Unit {0}

-- if the URIs of a model are normalised, and so are the URIs that a change adds, then the URIs of the model after the change are normalised
abbrev pub KeepsSteady : Model → Change → Type 0
KeepsSteady s c = HasSteadyTexts s → BringsSteadyTexts c → HasSteadyTexts (model_after s c)

-- whether a node is an object that a change destroys
abbrev pub goes_with : Reading → Change → Node → Bool
goes_with r c n = option_map_or (λ o. is_in_subtree r o n) (destroyed_by c) false

-- whether a node is an object whose number is n or higher
abbrev pub is_object_from : ℕ → Node → Bool
is_object_from n (node.Object o) = nat_le n o.0
is_object_from n (node.Resource k) = false

-- whether a change is a load, and a node is an object that the load may make: its number is the next number or higher
abbrev pub comes_with : Reading → Change → Node → Bool
comes_with r c n = is_some (loaded_by c) && is_object_from r.next n

-- a replay of the chain of a change gives each end the values and the set flag that the end has after the change, except the ends of nodes
-- that the change destroys or that a load makes; the document of a load has to be one that was read
abbrev pub ChainReplays : Model → Change → Type 0
ChainReplays = OfAllowed (λ s c. HasReadDocument s.metamodel c → (d : End) → goes_with (reading s) c d.node ≡ false → comes_with (reading s) c d.node ≡ false → ends_after_notices (has_flag s.metamodel) (held_at (reading s)) (chain (reading s) c) d ≡ held_at (reading (model_after s c)) d)

-- whether a change may take several values out of one list, put several in, or replace several
abbrev pub takes_many : Reading → Change → Bool
takes_many r (At e Unset) = not (shape_at r e).is_single
takes_many r c = is_some (destroyed_by c) || resolves_all c || is_some (loaded_by c)

-- in a list of feature changes, no two are at the same end
abbrev pub AreApart : List FeatureChange → Type 0
AreApart [] = Unit {0}
AreApart (t ∷ ts) = AllByRecursion (λ (u : FeatureChange). t.at ≡ u.at → ⊥) ts × AreApart ts

-- no two feature changes of a change are at the same end, unless the change is an unset of a list, a deletion, a resolve of all proxies, or
-- a load
abbrev pub TellsNoEndTwice : Model → Change → Type 0
TellsNoEndTwice = OfAllowed (λ s c. IsFalse (takes_many (reading s) c) → AreApart (feature_changes (reading s) c))

-- whether a feature change is at a single end
abbrev pub is_of_single : Metamodel → FeatureChange → Bool
is_of_single m t = (shape m t.at.feature).is_single

-- no two feature changes of a change are at the same single end
abbrev pub TellsNoSingleEndTwice : Model → Change → Type 0
TellsNoSingleEndTwice = OfAllowed (λ s c. AreApart (filter (is_of_single s.metamodel) (feature_changes (reading s) c)))

-- if the end e is unset, no two losses are at the same far end of e's links, and none of these far ends is e
abbrev pub FarEndsAreApart : Model → End → Type 0
FarEndsAreApart s e =
    let far = far_losses (reading s) (cut_link_ends (reading s) (At e Unset)) in
    OfAllowed (λ s c. AreApart (far ++ feature_change e Unsets ∷ [])) s (At e Unset)

-- in a list of link ends, no two name the same link
abbrev pub AreDifferent : Reading → List LinkEnd → Type 0
AreDifferent r [] = Unit {0}
AreDifferent r (t ∷ ts) = AllByRecursion (λ (u : LinkEnd). same_link r u t ≡ false) ts × AreDifferent r ts

-- a change cuts no link of `cut_link_ends` twice; this says nothing about a resolve of all proxies, and nothing about links that a load
-- makes and cuts again
abbrev pub CutsNoLinkTwice : Model → Change → Type 0
CutsNoLinkTwice = OfAllowed (λ s c. AreDifferent (reading s) (cut_link_ends (reading s) c))
