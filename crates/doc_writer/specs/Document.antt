-- The document of a resource, as a JSON value.
use Rattle.std.specs.Prelude.{ℕ, zero, suc, List, [], ◌∷◌, fold, map, codes, Option, None, option_and_then, unwrap_or, if◌then◌else◌}
use Rattle.std.specs.Option.{option_map_or}
use Rattle.serde_json.specs.Data.{Data, null, boolean, number, string, array, object, Members, no_members, put, unsigned}
use Rattle.serde_json.specs.Find.{of_integer}
use Rattle.serde_json.specs.View.{items_of}
use Rattle.serde_json.specs.Written.{compact_text}
use Rattle.mm_types.specs.Lookups as lookups
use Rattle.mm_types.specs.Resolved.{Metamodel}
use Rattle.mm_types.specs.Shapes.{is_containment}
use Rattle.mm_types.specs.Ends.{value_in}
use Rattle.mm_types.specs.declared.feature.DataType.TheVariants.{Enum}
use Rattle.mm_types.specs.declared.feature.Kind.{Kind}
use Rattle.mm_types.specs.declared.feature.Kind.TheVariants.{Attribute}
use Rattle.mm_types.specs.declared.limits.TheConstants.{DOCUMENT_FORMAT}
use Rattle.mm_types.specs.declared.numbers.FeatureNo.{FeatureNo}
use Rattle.mm_types.specs.declared.numbers.ObjectNo.{ObjectNo}
use Rattle.mm_types.specs.declared.numbers.ResourceNo.{ResourceNo}
use Rattle.mm_types.specs.declared.numbers.Node.TheVariants as node
use Rattle.mm_types.specs.declared.value.Value.{Value}
use Rattle.mm_types.specs.declared.value.Value.TheVariants as value
use Rattle.models.specs.Reading.{Reading, at_end, shape_at}
use Rattle.fragment_paths.specs.Finding.{roots}
use Rattle.fragment_paths.specs.Fragments.{reference}
use Rattle.doc_writer.specs.Written.{written_features}

-- the text by which resource k refers to an object; empty if the object is in no resource
abbrev pub reference_text : Reading → ResourceNo → ObjectNo → List ℕ
reference_text r k o = unwrap_or (reference r k o) []

---------------------------------------------------------------- values

-- the members `old`, into which the members ms are put one after another; serde_json keeps members in the order of their keys
abbrev pub members_with : Members → List (List ℕ × Data) → Members
members_with old ms = fold (λ found m. put m.0 m.1 found) old ms

abbrev pub members : List (List ℕ × Data) → Members
members = members_with no_members

abbrev pub two_members : List ℕ → Data → List ℕ → Data → Data
two_members k d l e = object (members ((k, d) ∷ (l, e) ∷ []))

-- the JSON value of a value that is no object; for an object null, which is not used (see `value_data`)
abbrev pub plain_data : Metamodel → FeatureNo → Value → Data
plain_data m f value.Null = null
plain_data m f (value.Bool b) = boolean b
plain_data m f (value.Int z) = number (of_integer z)
plain_data m f (value.Text t) = string t
plain_data m f (value.Literal i) = string (lookups.literal_text m f i)
plain_data m f (value.Object o) = null
plain_data m f (value.Proxy t) = string t

-- the JSON value of an object that is a value of a feature: the result of `part` if the feature is a containment, else the text by which
-- the resource k refers to the object
abbrev pub object_under : Reading → ResourceNo → (ObjectNo → Data) → FeatureNo → ObjectNo → Data
object_under r k part f o = if is_containment r.metamodel f then part o else string (reference_text r k o)

abbrev pub value_data : Reading → ResourceNo → (ObjectNo → Data) → FeatureNo → Value → Data
value_data r k part f (value.Object o) = object_under r k part f o
value_data r k part f v = plain_data r.metamodel f v

-- the JSON value of a feature of an object: an array of its values if the feature is many-valued, else its one value (null if it has none)
abbrev pub content_data : Reading → ResourceNo → (ObjectNo → Data) → ObjectNo → FeatureNo → Data
content_data r k part o f =
    let e = at_end (node.Object o) f in
    if (shape_at r e).is_single then value_data r k part f (value_in (r.values e) 0)
    else array (items_of (map (value_data r k part f) (r.values e)))

-- the member for a feature of an object: the name of the feature as the key, and the JSON value of the feature
abbrev pub feature_member : Reading → ResourceNo → (ObjectNo → Data) → ObjectNo → FeatureNo → List ℕ × Data
feature_member r k part o f = (lookups.feature_name r.metamodel f, content_data r k part o f)

---------------------------------------------------------------- objects

abbrev pub class_name : Reading → ObjectNo → List ℕ
class_name r o = option_map_or (λ c. c.name) (option_and_then (lookups.class r.metamodel) (r.class o)) []

-- the JSON value of an object with all that the object contains, down to a number of levels, of which the object itself is the first; each
-- object directly below the last of these levels is null, and the object itself is null if the number is 0
abbrev pub object_data : Reading → ResourceNo → ℕ → ObjectNo → Data
object_data r k zero o = null
object_data r k (suc n) o =
    two_members (codes "class") (string (class_name r o))
    (codes "features") (object (members (map (feature_member r k (object_data r k n) o) (written_features r o))))

-- the document of a resource. `r.next` is the number of objects that were made, and no tree has more levels than that, so the document has
-- all objects of the resource.
unfoldable pub document : Reading → ResourceNo → Data
document r k =
    two_members (codes "format") (number (unsigned DOCUMENT_FORMAT))
    (codes "roots") (array (items_of (map (object_data r k r.next) (roots r k))))

-- the text that is saved: serde_json's compact text of the document
abbrev pub saved_text : Reading → ResourceNo → List ℕ
saved_text r k = compact_text (document r k)
