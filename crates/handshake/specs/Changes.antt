-- Facts about a change that hold before it is planned: the document that it loads, the objects that it destroys, and whether it edits only
-- values, or only links.
use Rattle.std.specs.Prelude.{◌≡◌, ◌&&◌, ℕ, Bool, true, false, List, Option, IfSome, not, option_map}
use Rattle.mm_types.specs.Resolved.{Metamodel}
use Rattle.mm_types.specs.Shapes.{shape}
use Rattle.models.specs.Model.{reading}
use Rattle.models.specs.Reading.{Reading}
use Rattle.removal.specs.Removals.{IsRemoval}
use Rattle.removal.specs.declared.gone.Removal.{Removal}
use Rattle.doc_loader.specs.Fits.{IsFitting}
use Rattle.resource_docs.specs.Causes.{IsRead}
use Rattle.resource_docs.specs.declared.doc.Doc.{Doc}
use Rattle.handshake.specs.declared.change.Change.{Change}
use Rattle.handshake.specs.declared.change.Change.TheVariants.{At, Create, Load}
use Rattle.handshake.specs.FeatureChanges.{destroyed_by, resolves_one}

-- a document was read from some JSON value, in a resource with some URI
pub record IsDocument (m : Metamodel) (doc : Doc) : Type 0 where
  pub uri : List ℕ
  pub read : IsRead m uri doc

-- if a change is a load, its document was read
abbrev pub HasReadDocument : Metamodel → Change → Type 0
HasReadDocument m (Load k doc) = IsDocument m doc
HasReadDocument m _ = Unit {0}

-- if a change is a load, and the first object of its document gets the number n: all objects of the document, and all objects that it
-- names, get numbers within the limit; and no list of the document has too many values
abbrev pub HasFittingDocument : ℕ → Change → Type 0
HasFittingDocument n (Load k doc) = IsFitting n doc
HasFittingDocument n _ = Unit {0}

-- q is the removal of the object that a change deletes; q is none if the change deletes no object
pub record IsRemovalOf (r : Reading) (c : Change) (q : Option Removal) : Type 0 where
  pub whose : option_map (λ (x : Removal). x.object) q ≡ destroyed_by c
  pub found : IfSome q (IsRemoval r)

-- whether a change is a `Create`, or is an act at an end and the act is no `Resolve`; if so, the change edits either only values or only
-- links
abbrev pub edits_one_kind : Change → Bool
edits_one_kind (Create c) = true
edits_one_kind (At e a) = not (resolves_one (At e a))
edits_one_kind _ = false

-- whether a change is an act at an end whose feature is a reference
abbrev pub is_at_reference : Metamodel → Change → Bool
is_at_reference m (At e a) = (shape m e.feature).is_reference
is_at_reference m _ = false

-- whether a change is a `Create`, or is an act at an attribute and the act is no `Resolve`; if so, the change edits only values
abbrev pub edits_values_alone : Metamodel → Change → Bool
edits_values_alone m c = edits_one_kind c && not (is_at_reference m c)

-- whether a change is an act at a reference and the act is no `Resolve`; if so, the change edits only links
abbrev pub edits_links_alone : Metamodel → Change → Bool
edits_links_alone m c = edits_one_kind c && is_at_reference m c
