-- The objects and the values of a resource, as they are read from its document.
use Rattle.std.specs.Prelude.{◌≡◌, ℕ, true, List, Contains, map, position, Some, slice_get}
use Rattle.mm_types.specs.Lookups as lookups
use Rattle.mm_types.specs.Same.{same_object}
use Rattle.mm_types.specs.Shapes.{shape}
use Rattle.mm_types.specs.declared.feature.Feature.{Feature}
use Rattle.mm_types.specs.declared.numbers.FeatureNo.{FeatureNo}
use Rattle.mm_types.specs.declared.numbers.ObjectNo.{ObjectNo}
use Rattle.mm_types.specs.declared.numbers.ResourceNo.{ResourceNo}
use Rattle.mm_types.specs.declared.numbers.Node.TheVariants as node
use Rattle.mm_types.specs.declared.value.Value.{Value}
use Rattle.models.specs.Reading.{Reading, at_end}
use Rattle.containment.specs.Above.{resource_of}
use Rattle.fragment_paths.specs.Fragments.{path_of}
use Rattle.doc_parts.specs.Contents.{is_value}
use Rattle.doc_parts.specs.Parts.{Part, level_of, number_of}
use Rattle.doc_writer.specs.Document.{value_data}
use Rattle.doc_writer.specs.Written.{level, objects_in, written_features}
use Rattle.resource_docs.specs.Texts.{base_of}
use Rattle.resource_docs.specs.Values.{value_of}
use Rattle.round_trip.specs.Parts.{data_of, part_of, path_in}
use Rattle.round_trip.specs.Copied.{renamed_value}

-- the parts of the document of a resource
abbrev pub parts_of : Reading → ResourceNo → List Part
parts_of r k = map (part_of r k) (objects_in r k)

-- the object o is in the resource k and has a path there; the number of its part in the document is the index of o in loading order, and
-- the level of the part is the level of o
pub record IsPlaced (r : Reading) (k : ResourceNo) (o : ObjectNo) : Type 0 where
  pub inside : resource_of r.above o ≡ Some k
  pub path : path_of r o ≡ Some (path_in r o)
  pub number : number_of (parts_of r k) (path_in r o) ≡ position (same_object o) (objects_in r k)
  pub level : level_of (part_of r k o) ≡ level r o

-- the JSON value of v is accepted for the feature f, and is read as the value that the document has for v (`renamed_value`). Here v is the
-- value at the index i under the feature f of the object o, and g is the declaration of f
pub record IsReadAs (r : Reading) (k : ResourceNo) (uri : List ℕ) (o : ObjectNo) (f : FeatureNo) (g : Feature) (i : ℕ) (v : Value) : Type 0 where
  pub good : is_value r.metamodel (shape r.metamodel f).is_single g.kind (value_data r k (data_of r k) f v) ≡ true
  pub value : value_of r.metamodel (base_of uri) (parts_of r k) (path_in r o) f g.kind (i, value_data r k (data_of r k) f v) ≡ Some (renamed_value r (objects_in r k) v)

-- `IsPlaced` is true of each object of the resource, and `IsReadAs` is true of each value under each written feature
pub record AreReadAs (r : Reading) (k : ResourceNo) (uri : List ℕ) : Type 0 where
  pub objects : (o : ObjectNo) → Contains (objects_in r k) o → IsPlaced r k o
  pub values : (o : ObjectNo) (f : FeatureNo) (g : Feature) (i : ℕ) (v : Value) → Contains (objects_in r k) o → Contains (written_features r o) f
      → lookups.feature r.metamodel f ≡ Some g → slice_get (r.values (at_end (node.Object o) f)) i ≡ Some v → IsReadAs r k uri o f g i v
