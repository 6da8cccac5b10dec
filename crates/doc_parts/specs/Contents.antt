-- Whether the content of a feature is of the feature's type, and which value JSON data gives an attribute.
use Rattle.std.specs.Prelude.{ℕ, ◌&&◌, ◌||◌, Bool, true, false, List, length, nat_le, Option, None, is_some, option_map, if◌then◌else◌}
use Rattle.std.specs.List.{list_all}
use Rattle.std.specs.Option.{option_map_or, option_or}
use Rattle.serde_json.specs.Data.{Data}
use Rattle.serde_json.specs.Find.{as_array, as_bool, as_null, as_object, as_str}
use Rattle.json_fields.specs.Fields.{◌>>=◌, ◌such_that◌, whole_number, whole_number_of_64}
use Rattle.mm_types.specs.Lookups as lookups
use Rattle.mm_types.specs.Resolved.{Metamodel}
use Rattle.mm_types.specs.Shapes.{shape}
use Rattle.mm_types.specs.declared.feature.DataType.{DataType}
use Rattle.mm_types.specs.declared.feature.DataType.TheVariants.{EString, EInt, ELong, EBoolean, Enum}
use Rattle.mm_types.specs.declared.feature.Kind.{Kind}
use Rattle.mm_types.specs.declared.feature.Kind.TheVariants.{Attribute, Reference}
use Rattle.mm_types.specs.declared.limits.TheConstants.{TEXT_BYTES}
use Rattle.mm_types.specs.declared.numbers.ClassNo.{ClassNo}
use Rattle.mm_types.specs.declared.value.Value.{Value}
use Rattle.mm_types.specs.declared.value.Value.TheVariants as value
use Rattle.doc_parts.specs.Parts.{Entry, class_of, values_of}

abbrev pub is_short : List ℕ → Bool
is_short t = nat_le (length t) TEXT_BYTES

---------------------------------------------------------------- attributes

-- the value that data gives a text attribute: the text, if the data is a text of at most TEXT_BYTES bytes; null, if the data is null and
-- the attribute is single; else none
abbrev pub text_value : Bool → Data → Option Value
text_value single d =
    option_or (if single then option_map (λ x. value.Null) (as_null d) else None) (option_map value.Text (as_str d such_that is_short))

-- the value that JSON data gives an attribute of a data type; none if the data gives no value of that type. `single` says whether the
-- attribute is single
abbrev pub attribute_value : Metamodel → Bool → DataType → Data → Option Value
attribute_value m single EString d = text_value single d
attribute_value m single EInt d = option_map value.Int (whole_number d)
attribute_value m single ELong d = option_map value.Int (whole_number_of_64 d)
attribute_value m single EBoolean d = option_map value.Bool (as_bool d)
attribute_value m single (Enum e) d = option_map value.Literal (as_str d >>= lookups.literal_by_name m e)

---------------------------------------------------------------- what is a value of a feature at all

abbrev pub conforms_to : Metamodel → ClassNo → Data → Bool
conforms_to m target d = option_map_or (λ c. lookups.conforms m c target) (class_of m d) false

-- whether data may be a part under a containment: the data is a JSON object, and its class conforms to the target. A JSON object that lacks
-- the layout of an object, or names no class of the metamodel, is accepted here, since it has a fault of its own (`Faults`)
abbrev pub may_stand : Metamodel → ClassNo → Data → Bool
may_stand m target d = is_some (as_object d) && option_map_or (λ c. lookups.conforms m c target) (class_of m d) true

abbrev pub is_value : Metamodel → Bool → Kind → Data → Bool
is_value m single (Attribute t unique unsettable default) d = is_some (attribute_value m single t d)
is_value m single (Reference target true opposite) d = may_stand m target d
is_value m single (Reference target false opposite) d = option_map_or is_short (as_str d) false

-- whether content is of its feature's type: an array if the feature is many-valued, and each value is one that the feature may hold
abbrev pub is_content : Metamodel → Entry → Bool
is_content m e =
    let single = (shape m e.feature).is_single in
    (single || is_some (as_array e.content))
    && option_map_or (λ g. list_all (is_value m single g.kind) (values_of m e)) (lookups.feature m e.feature) false
