-- The laws from which reloading in any order follows.
use Rattle.std.specs.Prelude.{◌≡◌, ℕ, ◌+◌, true, List, Some, None, is_some, if◌then◌else◌}
use Rattle.mm_types.specs.Shapes.{shape}
use Rattle.mm_types.specs.declared.numbers.FeatureNo.{FeatureNo}
use Rattle.mm_types.specs.declared.numbers.Node.TheVariants as node
use Rattle.mm_types.specs.declared.numbers.ObjectNo.{ObjectNo}
use Rattle.mm_types.specs.declared.numbers.ResourceNo.{ResourceNo}
use Rattle.mm_values.specs.Values.{ValuesState}
use Rattle.links.specs.Links.{Links}
use Rattle.models.specs.Legal.{IsLegal}
use Rattle.models.specs.Model.{Model, model_of, reading}
use Rattle.models.specs.Reading.{Reading, at_end}
use Rattle.models.specs.Steady.{HasSteadyTexts}
use Rattle.fragment_paths.specs.Finding.{at}
use Rattle.fragment_paths.specs.Fragments.{address}
use Rattle.resource_docs.specs.declared.doc.Doc.{Doc}
use Rattle.round_trip.specs.Copied.{copied_document}
use Rattle.round_trip.specs.Readable.{IsReadable}
use Rattle.handshake.specs.Effects.{model_after}
use Rattle.handshake.specs.Laws.{OfAllowed}
use Rattle.handshake.specs.Changes.{HasReadDocument}
use Rattle.handshake.specs.Refusals.{early_refusal, late_refusal}
use Rattle.proxies.specs.Resolving.{proxy_at}
use Rattle.proxies.specs.ResolvingAll as all
use Rattle.handshake.specs.declared.change.Change.TheVariants.{At, Load, ResolveAll}
use Rattle.handshake.specs.declared.act.Act.TheVariants.{Resolve}
use Rattle.reloading.specs.Alike.{Alike}
use Rattle.reloading.specs.Between.{Between}
use Rattle.reloading.specs.Images.{HasImages}
use Rattle.reloading.specs.Proxies.{HasNoProxy, proxies_len}

---------------------------------------------------------------- addresses

-- each object that has an address is found at this address, and no other object has it
pub record HasOwnAddresses (r : Reading) : Type 0 where
  pub finds : (o : ObjectNo) (a : List ℕ) → address r o ≡ Some a → at r a ≡ Some o
  pub one : (o b : ObjectNo) (a : List ℕ) → address r o ≡ Some a → address r b ≡ Some a → o ≡ b

-- in a legal model: if a resolve of a proxy is not refused, the resolve changes no object's address
abbrev pub ResolvesKeepAddresses : Model → ObjectNo → FeatureNo → ℕ → Type 0
ResolvesKeepAddresses s o f i = OfAllowed (λ s c. (x : ObjectNo) → address (reading (model_after s c)) x ≡ address (reading s) x) s (At (at_end (node.Object o) f) (Resolve i))

-- in a legal model: if a load of a document that was read is not refused, each object that has an address keeps this address
abbrev pub LoadsKeepAddresses : Model → ResourceNo → Doc → Type 0
LoadsKeepAddresses s k doc =
    OfAllowed (λ s c. HasReadDocument s.metamodel c → (o : ObjectNo) (a : List ℕ) → address (reading s) o ≡ Some a → address (reading (model_after s c)) o ≡ Some a) s (Load k doc)

---------------------------------------------------------------- loads

-- let s be legal with normalised URIs, let its resource k be one that can be saved and read back (`IsReadable`), and let a second model of
-- the same metamodel be legal, with the values w and the links b. If the document of k is loaded into the resource j of the second model,
-- and the load is not refused, then j has the images of the objects of k
abbrev pub LoadsSaved : Model → ValuesState → Links → Type 0
LoadsSaved s w b =
    IsLegal s → HasSteadyTexts s → (k j : ResourceNo) (uri : List ℕ) → IsReadable (reading s) k uri
    → OfAllowed (λ t c. HasImages (reading s) k (reading t).next j (reading (model_after t c))) (model_of s.metamodel w b) (Load j (copied_document (reading s) k))

---------------------------------------------------------------- resolves

-- the resolve of the proxy at index i of the feature f of the object o of t is not refused; the model after it is a partly resolved copy of
-- r, and has one proxy fewer than t, or two fewer if f has an opposite
pub record IsResolvedBetween (r : Reading) (t : Model) (o : ObjectNo) (f : FeatureNo) (i : ℕ) : Type 0 where
  pub early : early_refusal (reading t) (At (at_end (node.Object o) f) (Resolve i)) ≡ None
  pub late : late_refusal (reading t) (At (at_end (node.Object o) f) (Resolve i)) ≡ None
  pub between : Between r (reading (model_after t (At (at_end (node.Object o) f) (Resolve i))))
  pub fewer : proxies_len (reading t) ≡ (if is_some (shape t.metamodel f).opposite then 2 else 1) + proxies_len (reading (model_after t (At (at_end (node.Object o) f) (Resolve i))))

-- `IsResolvedBetween` holds for each proxy of a partly resolved copy of s, if s and the copy are legal, and s has no proxies; w and b are
-- the values and the links of the copy
abbrev pub ResolvesBetween : Model → ValuesState → Links → Type 0
ResolvesBetween s w b =
    let t = model_of s.metamodel w b in
    IsLegal s → IsLegal t → HasNoProxy (reading s) → Between (reading s) (reading t) → (o : ObjectNo) (f : FeatureNo) (i : ℕ)
    → is_some (proxy_at (reading t) (at_end (node.Object o) f) i) ≡ true → IsResolvedBetween (reading s) t o f i

-- after all proxies of t, a partly resolved copy of r, are resolved, no proxy is left, and the model is isomorphic to r
pub record IsAllResolved (r : Reading) (t : Model) : Type 0 where
  pub none : HasNoProxy (reading (model_after t ResolveAll))
  pub left : all.unresolved_count (reading t) ≡ 0
  pub alike : Alike r (reading (model_after t ResolveAll))

abbrev pub ResolvesAll : Model → ValuesState → Links → Type 0
ResolvesAll s w b =
    let t = model_of s.metamodel w b in
    IsLegal s → IsLegal t → HasNoProxy (reading s) → Between (reading s) (reading t) → IsAllResolved (reading s) t
