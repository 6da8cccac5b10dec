-- What can be read of a model after a document was loaded into a resource: the new objects and the roots are as the document says, and all
-- else is as before.
use Rattle.std.specs.Prelude.{◌≡◌, ◌+◌, ◌<◌, ℕ, ◌&&◌, true, false, not, [], ◌∷◌, length, map, Some, slice_get}
use Rattle.mm_types.specs.Lookups as lookups
use Rattle.mm_types.specs.Resolved.{Metamodel}
use Rattle.mm_types.specs.Same.{is_nil}
use Rattle.mm_types.specs.Shapes.{is_containment, shape}
use Rattle.mm_types.specs.declared.end.End.{End}
use Rattle.mm_types.specs.declared.numbers.FeatureNo.{FeatureNo}
use Rattle.mm_types.specs.declared.numbers.Node.{Node}
use Rattle.mm_types.specs.declared.numbers.Node.TheVariants as node
use Rattle.mm_types.specs.declared.numbers.ObjectNo.{ObjectNo}
use Rattle.mm_types.specs.declared.numbers.ResourceNo.{ResourceNo}
use Rattle.mm_types.specs.declared.value.Value.TheVariants as value
use Rattle.models.specs.Model.{Model, attribute_values, reading}
use Rattle.models.specs.Reading.{Reading, contents_end}
use Rattle.resource_docs.specs.Read.{values_in}
use Rattle.resource_docs.specs.declared.doc.Doc.{Doc}
use Rattle.doc_loader.specs.Loading.{loaded_number, loaded_value, object_end, roots_loaded}
use Rattle.doc_loader.specs.Typed.{class_in}
use Rattle.handshake.specs.declared.change.Change.TheVariants.{Load}
use Rattle.handshake.specs.Effects.{model_after}
use Rattle.handshake.specs.Laws.{OfAllowed, comes_with}
use Rattle.handshake.specs.Changes.{HasReadDocument}

-- in a document, the object b is among the values that are written for the feature f of the object o
abbrev pub IsWrittenWith : Doc → ObjectNo → FeatureNo → ObjectNo → Type 0
IsWrittenWith doc o f b = (i : ℕ) × (slice_get (values_in doc o f) i ≡ Some (value.Object b))

-- f is a container reference, and c is its opposite
abbrev pub IsContainer : Metamodel → FeatureNo → FeatureNo → Type 0
IsContainer m f c = (lookups.is_container m f ≡ true) × ((shape m f).opposite ≡ Some c)

-- the objects of a document have the next numbers, in order, and are as the document says; r is the reading before the load, and t the
-- reading after it
pub record HasObjectsOf (r : Reading) (doc : Doc) (t : Reading) : Type 0 where
  pub next : t.next ≡ r.next + length doc.objects
  -- each object has the class that the document gives it
  pub classes : (o : ObjectNo) → t.class (loaded_number r.next o) ≡ class_in doc o
  -- an attribute has the values that are written; a single attribute without a written value has its default
  pub attributes : (o : ObjectNo) (f : FeatureNo) → (shape r.metamodel f).is_reference ≡ false
      → t.values (object_end r.next o f) ≡ attribute_values (shape r.metamodel f) (values_in doc o f)
  -- the set flag of a single unsettable attribute is on if the document writes a value for it; every other set flag of these objects is off
  pub flags : (o : ObjectNo) (f : FeatureNo)
      → t.flag (object_end r.next o f) ≡ ((shape r.metamodel f).is_unsettable && ((shape r.metamodel f).is_single && not (is_nil (values_in doc o f))))
  -- a reference that is no container reference has the values that are written, in that order: objects by their new numbers, and proxies
  pub references : (o : ObjectNo) (f : FeatureNo) → (shape r.metamodel f).is_reference ≡ true → lookups.is_container r.metamodel f ≡ false
      → t.values (object_end r.next o f) ≡ map (loaded_value r.next) (values_in doc o f)
  -- the container reference f of an object o has the object b, if o is written for the containment c of b. It is empty if o is written for
  -- the containment c of no object
  pub containers : (o b : ObjectNo) (f c : FeatureNo) → IsContainer r.metamodel f c → IsWrittenWith doc b c o
      → t.values (object_end r.next o f) ≡ value.Object (loaded_number r.next b) ∷ []
  pub no_containers : (o : ObjectNo) (f c : FeatureNo) → IsContainer r.metamodel f c → ((b : ObjectNo) → IsWrittenWith doc b c o → ⊥)
      → t.values (object_end r.next o f) ≡ []
  -- an object that is written for a containment is held at that end
  pub holders : (o b : ObjectNo) (f : FeatureNo) → is_containment r.metamodel f ≡ true → IsWrittenWith doc o f b
      → t.holder (node.Object (loaded_number r.next b)) ≡ Some (object_end r.next o f)

-- the roots of a document are in a resource
pub record HasRootsOf (r : Reading) (k : ResourceNo) (doc : Doc) (t : Reading) : Type 0 where
  -- the roots are in the document's order
  pub contents : t.values (contents_end r.metamodel k) ≡ roots_loaded r.next doc
  -- each root is held by the resource
  pub holders : (i : ℕ) (o : ObjectNo) → slice_get doc.roots i ≡ Some o → t.holder (node.Object (loaded_number r.next o)) ≡ Some (contents_end r.metamodel k)

-- all else is as before: the metamodel, the URIs, and each node without a new number; but the resource has new roots
pub record IsElseAsBefore (r : Reading) (k : ResourceNo) (doc : Doc) (t : Reading) : Type 0 where
  pub metamodel : t.metamodel ≡ r.metamodel
  pub uris : t.uris ≡ r.uris
  pub classes : (o : ObjectNo) → o.0 < r.next → t.class o ≡ r.class o
  pub values : (d : End) → comes_with r (Load k doc) d.node ≡ false → (contents_end r.metamodel k ≡ d → ⊥) → t.values d ≡ r.values d
  pub flags : (d : End) → comes_with r (Load k doc) d.node ≡ false → t.flag d ≡ r.flag d
  pub holders : (n : Node) → comes_with r (Load k doc) n ≡ false → t.holder n ≡ r.holder n
  pub above : (n : Node) → comes_with r (Load k doc) n ≡ false → t.above n ≡ r.above n

-- a document was loaded into a resource
pub record IsLoaded (r : Reading) (k : ResourceNo) (doc : Doc) (t : Reading) : Type 0 where
  pub objects : HasObjectsOf r doc t
  pub roots : HasRootsOf r k doc t
  pub others : IsElseAsBefore r k doc t

-- if a document was read, and its load into a legal model is not refused, the model after the load is as the document says
abbrev pub LoadsEnds : Model → ResourceNo → Doc → Type 0
LoadsEnds s k doc = OfAllowed (λ s c. HasReadDocument s.metamodel c → IsLoaded (reading s) k doc (reading (model_after s c))) s (Load k doc)
