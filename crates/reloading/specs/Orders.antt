-- The loads of all saved resources, in any order: each resource is made anew once, and its document is loaded into it once.
use Rattle.std.specs.Prelude.{◌≡◌, ◌≤◌, ℕ, Bool, true, false, List, [], ◌∷◌, ◌++◌, length, nat_eq, position, slice_get, unwrap_or, None}
use Rattle.std.specs.List.{list_any}
use Rattle.mm_types.specs.declared.limits.TheConstants.{TEXT_BYTES}
use Rattle.mm_types.specs.declared.numbers.ObjectNo.{ObjectNo}
use Rattle.mm_types.specs.declared.numbers.ResourceNo.{ResourceNo}
use Rattle.models.specs.Legal.{IsLegal}
use Rattle.models.specs.Model.{Model, empty_model, reading}
use Rattle.models.specs.Reading.{Reading, has_resource}
use Rattle.models.specs.Steady.{HasSteadyTexts}
use Rattle.doc_writer.specs.Document.{reference_text}
use Rattle.doc_writer.specs.Saved.{save_refusal}
use Rattle.round_trip.specs.Copied.{copied_document}
use Rattle.round_trip.specs.Readable.{Refers}
use Rattle.handshake.specs.Effects.{model_after}
use Rattle.handshake.specs.Refusals.{early_refusal, late_refusal}
use Rattle.handshake.specs.declared.change.Change.{Change}
use Rattle.handshake.specs.declared.change.Change.TheVariants.{Load, NewResource}
use Rattle.reloading.specs.Between.{Between}
use Rattle.reloading.specs.Proxies.{HasNoProxy}

-- `Make`: a resource is made anew; `Fill`: the document of a resource is loaded into the new resource
pub data Task : Type 0 where
  Make : ResourceNo → Task
  Fill : ResourceNo → Task

abbrev pub is_same : ResourceNo → ResourceNo → Bool
is_same k j = nat_eq k.0 j.0

abbrev pub has : List ResourceNo → ResourceNo → Bool
has ks k = list_any (is_same k) ks

-- k is a resource of r that is not made yet; and `IsFilling`: k is a resource that is made, and not filled yet
pub record IsMaking (r : Reading) (made : List ResourceNo) (k : ResourceNo) : Type 0 where
  pub there : has_resource r k ≡ true
  pub new : has made k ≡ false

pub record IsFilling (made filled : List ResourceNo) (k : ResourceNo) : Type 0 where
  pub there : has made k ≡ true
  pub new : has filled k ≡ false

-- `made` has the resources that are made already, and `filled` those that are filled already. The tasks make each resource of r that is not
-- made yet, and fill each resource of r that is not filled yet, each once. They fill no resource before the resource is made
abbrev pub IsOrder : Reading → List ResourceNo → List ResourceNo → List Task → Type 0
IsOrder r made filled [] = (k : ResourceNo) → has_resource r k ≡ true → has filled k ≡ true
IsOrder r made filled (Make k ∷ ts) = IsMaking r made k × IsOrder r (made ++ k ∷ []) filled ts
IsOrder r made filled (Fill k ∷ ts) = IsFilling made filled k × IsOrder r made (filled ++ k ∷ []) ts

-- the number of the resource that was made for the saved resource k; 0 if none was made. `made` lists the saved resources in the order in
-- which resources were made for them
abbrev pub number_of : List ResourceNo → ResourceNo → ResourceNo
number_of made k = record { 0 = unwrap_or (position (is_same k) made) 0 }

abbrev pub uri_of : Reading → ResourceNo → List ℕ
uri_of r k = unwrap_or (slice_get r.uris k.0) []

-- the changes of tasks: `Make k` makes a resource with the URI of the saved resource k; `Fill k` loads the document of the saved resource k
-- into the resource that was made for k
abbrev pub changes : Reading → List ResourceNo → List Task → List Change
changes r made [] = []
changes r made (Make k ∷ ts) = NewResource (uri_of r k) ∷ changes r (made ++ k ∷ []) ts
changes r made (Fill k ∷ ts) = Load (number_of made k) (copied_document r k) ∷ changes r made ts

-- the model after some changes, one after another
abbrev pub after_all : Model → List Change → Model
after_all t [] = t
after_all t (c ∷ cs) = after_all (model_after t c) cs

-- a change is not refused in the model t. `AreAllowed`: none of the changes of a list is refused, if they are made in t one after another
pub record IsAllowed (t : Model) (c : Change) : Type 0 where
  pub early : early_refusal (reading t) c ≡ None
  pub late : late_refusal (reading t) c ≡ None

abbrev pub AreAllowed : Model → List Change → Type 0
AreAllowed t [] = Unit {0}
AreAllowed t (c ∷ cs) = IsAllowed t c × AreAllowed (model_after t c) cs

-- each resource of r can be saved, no text of a reference is longer than TEXT_BYTES, and no end has a proxy
pub record IsSaved (r : Reading) : Type 0 where
  pub allowed : (k : ResourceNo) → has_resource r k ≡ true → save_refusal r k ≡ None
  pub short : (k : ResourceNo) (o : ObjectNo) → has_resource r k ≡ true → Refers r k o → length (reference_text r k o) ≤ TEXT_BYTES
  pub resolved : HasNoProxy r

-- in an empty model of the metamodel of s the changes of the tasks are not refused; the model after these changes is legal, and a partly
-- resolved copy of s
pub record AreLoads (s : Model) (ts : List Task) : Type 0 where
  pub allowed : AreAllowed (empty_model s.metamodel) (changes (reading s) [] ts)
  pub legal : IsLegal (after_all (empty_model s.metamodel) (changes (reading s) [] ts))
  pub between : Between (reading s) (reading (after_all (empty_model s.metamodel) (changes (reading s) [] ts)))

-- if s is legal, its URIs are normalised, and `IsSaved` holds for it, then `AreLoads` holds for each list of tasks in an allowed order
-- (`IsOrder`)
abbrev pub LoadsGiveBetween : Model → Type 0
LoadsGiveBetween s = IsLegal s → HasSteadyTexts s → IsSaved (reading s) → (ts : List Task) → IsOrder (reading s) [] [] ts → AreLoads s ts
