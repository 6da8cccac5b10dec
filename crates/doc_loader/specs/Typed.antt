-- Documents that agree with their metamodel: the class of each object has the features under which the object has values, and each value is
-- one that its feature accepts.
use Rattle.std.specs.Prelude.{◌≡◌, ◌<◌, false, true, length, Option, option_map, slice_get}
use Rattle.std.specs.List.{All}
use Rattle.mm_types.specs.Lookups as lookups
use Rattle.mm_types.specs.Resolved.{Metamodel}
use Rattle.mm_types.specs.Same.{is_nil}
use Rattle.mm_types.specs.Shapes.{contents_shape, is_bounded, shape}
use Rattle.mm_types.specs.declared.numbers.ClassNo.{ClassNo}
use Rattle.mm_types.specs.declared.numbers.FeatureNo.{FeatureNo}
use Rattle.mm_types.specs.declared.numbers.ObjectNo.{ObjectNo}
use Rattle.mm_types.specs.declared.value.Value.{Value}
use Rattle.mm_types.specs.declared.value.Value.TheVariants as value
use Rattle.models.specs.Legal.{IsUniqueList, is_legal_value, takes_proxies}
use Rattle.resource_docs.specs.declared.doc.Content.{Content}
use Rattle.resource_docs.specs.declared.doc.Doc.{Doc}
use Rattle.resource_docs.specs.declared.doc.DocObject.{DocObject}

-- the class of an object of a document
abbrev pub class_in : Doc → ObjectNo → Option ClassNo
class_in doc o = option_map (λ x. x.class) (slice_get doc.objects o.0)

-- the feature f accepts the value: an object whose class conforms to the target of f, a proxy if f may have proxies, or a legal value of an
-- attribute
abbrev pub IsTypedValue : Metamodel → Doc → FeatureNo → Value → Type 0
IsTypedValue m doc f (value.Object b) = lookups.takes m (class_in doc) f (value.Object b) ≡ true
IsTypedValue m doc f (value.Proxy t) = takes_proxies (shape m f) ≡ true
IsTypedValue m doc f v = is_legal_value m f v ≡ true

-- the content c agrees with the class of its object: the class has the feature; there is at least one value, and there are no more values
-- than the upper bound and LIST_VALUES allow; the feature accepts each value; and if the feature is unique, no value is there twice
pub record IsTypedContent (m : Metamodel) (doc : Doc) (class : ClassNo) (c : Content) : Type 0 where
  pub has : lookups.has_feature m class c.feature ≡ true
  pub takes : All (IsTypedValue m doc c.feature) c.values
  pub bounded : is_bounded (shape m c.feature) (length c.values) ≡ true
  pub unique : IsUniqueList (shape m c.feature).is_unique c.values
  pub some : is_nil c.values ≡ false

pub record IsTypedObject (m : Metamodel) (doc : Doc) (o : DocObject) : Type 0 where
  pub concrete : lookups.is_concrete m o.class ≡ true
  pub contents : All (IsTypedContent m doc o.class) o.contents

-- Each object is of a concrete class, and each of its contents agrees with this class and with the content's feature (`IsTypedContent`).
-- The roots are objects of the document, and a resource may have that many roots.
pub record IsTyped (m : Metamodel) (doc : Doc) : Type 0 where
  pub objects : All (IsTypedObject m doc) doc.objects
  pub roots : All (λ (o : ObjectNo). o.0 < length doc.objects) doc.roots
  pub few_roots : is_bounded (contents_shape m) (length doc.roots) ≡ true
