-- How the values under a feature are read: as values of attributes, as objects of the document by their numbers, or as proxies.
use Rattle.std.specs.Prelude.{ℕ, Bool, true, false, not, List, slice_get, Option, Some, None, is_some, option_map, if◌then◌else◌}
use Rattle.std.specs.List.{list_any}
use Rattle.std.specs.Option.{option_map_or}
use Rattle.serde_json.specs.Data.{Data}
use Rattle.serde_json.specs.Find.{as_str}
use Rattle.json_fields.specs.Fields.{◌>>=◌}
use Rattle.mm_types.specs.Lookups as lookups
use Rattle.mm_types.specs.Resolved.{Metamodel}
use Rattle.mm_types.specs.Shapes.{shape}
use Rattle.mm_types.specs.declared.feature.Kind.{Kind}
use Rattle.mm_types.specs.declared.feature.Kind.TheVariants.{Attribute, Reference}
use Rattle.mm_types.specs.declared.numbers.ClassNo.{ClassNo}
use Rattle.mm_types.specs.declared.numbers.FeatureNo.{FeatureNo}
use Rattle.mm_types.specs.declared.value.Value.{Value}
use Rattle.mm_types.specs.declared.value.Value.TheVariants as value
use Rattle.web_uris.specs.Addresses.{IsSteadyProxy}
use Rattle.web_uris.specs.Paths.{with_step}
use Rattle.web_uris.specs.declared.path.Path.{Path}
use Rattle.doc_parts.specs.Contents.{attribute_value, conforms_to}
use Rattle.doc_parts.specs.Parts.{Entry, Part, number_of, step_to, values_of}
use Rattle.resource_docs.specs.Texts.{Base, target}
use Rattle.resource_docs.specs.declared.referent.Referent.{Referent}
use Rattle.resource_docs.specs.declared.referent.Referent.TheVariants.{Here, Elsewhere}

---------------------------------------------------------------- references

-- an object of the document, as a value
abbrev pub object_of : ℕ → Value
object_of n = value.Object (record { 0 = n })

-- the value of a target. For a path in the document, the value is the object there; none if no object is there, or if it does not conform
-- to the class. For an address in a different resource, the value is a proxy
abbrev pub led_to : Metamodel → List Part → ClassNo → Referent → Option Value
led_to m ps class (Here p) =
    number_of ps p >>= (λ n. slice_get ps n >>= (λ q. if conforms_to m class q.json then Some (object_of n) else None))
led_to m ps class (Elsewhere t) = Some (value.Proxy t)

abbrev pub reference_value : Metamodel → Base → List Part → ClassNo → Data → Option Value
reference_value m b ps class d = as_str d >>= target b >>= led_to m ps class

-- whether a feature is a reference and no containment
abbrev pub is_link : Kind → Bool
is_link (Attribute t unique unsettable default) = false
is_link (Reference class containment opposite) = not containment

-- whether the data under a reference that is no containment is no text, leads nowhere, or leads to an object of a wrong class; false for
-- any other feature
abbrev pub is_lost : Metamodel → Base → List Part → Kind → Data → Bool
is_lost m b ps (Attribute t unique unsettable default) d = false
is_lost m b ps (Reference class true opposite) d = false
is_lost m b ps (Reference class false opposite) d = not (is_some (reference_value m b ps class d))

abbrev pub has_lost : Metamodel → Base → List Part → Entry → Bool
has_lost m b ps e = option_map_or (λ g. list_any (is_lost m b ps g.kind) (values_of m e)) (lookups.feature m e.feature) false

---------------------------------------------------------------- values

-- the value that the data v.1 at the position v.0 gives, under the feature f of the object at the path p; none if the data gives no value
abbrev pub value_of : Metamodel → Base → List Part → Path → FeatureNo → Kind → ℕ × Data → Option Value
value_of m b ps p f (Attribute t unique unsettable default) v = attribute_value m (shape m f).is_single t v.1
value_of m b ps p f (Reference class true opposite) v = option_map object_of (number_of ps (with_step p (step_to m f v.0)))
value_of m b ps p f (Reference class false opposite) v = reference_value m b ps class v.1

---------------------------------------------------------------- proxies

-- if a value is a proxy, `Holds` is true of its text
abbrev pub OfProxy : (List ℕ → Type 0) → Value → Type 0
OfProxy Holds (value.Proxy t) = Holds t
OfProxy Holds _ = Unit {0}

-- if a value is a proxy, its text is a normalised URI, `#` and a fragment
abbrev pub IsProxyValue : Value → Type 0
IsProxyValue v = OfProxy IsSteadyProxy v
