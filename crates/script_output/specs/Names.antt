-- The names of features and of literals, as they are printed, and the enumeration that is the type of a feature.
use Rattle.std.specs.Prelude.{ℕ, List, [], Option, Some, None, option_and_then, codes}
use Rattle.std.specs.Option.{option_map_or}
use Rattle.mm_types.specs.Lookups as lookups
use Rattle.mm_types.specs.Resolved.{Metamodel}
use Rattle.mm_types.specs.declared.feature.DataType.{DataType}
use Rattle.mm_types.specs.declared.feature.DataType.TheVariants.{EString, EInt, ELong, EBoolean, Enum}
use Rattle.mm_types.specs.declared.feature.Kind.{Kind}
use Rattle.mm_types.specs.declared.feature.Kind.TheVariants.{Attribute, Reference}
use Rattle.mm_types.specs.declared.numbers.FeatureNo.{FeatureNo}
use Rattle.mm_types.specs.declared.value.Value.{Value}
use Rattle.mm_types.specs.declared.value.Value.TheVariants as value

-- the name of the feature with a given number; `contents`, the only feature of resources, if no feature of the metamodel has the number
abbrev pub feature_name : Metamodel → FeatureNo → List ℕ
feature_name m f = option_map_or (λ g. g.name) (lookups.feature m f) (codes "contents")

abbrev pub enum_of_type : DataType → Option ℕ
enum_of_type EString = None
enum_of_type EInt = None
enum_of_type ELong = None
enum_of_type EBoolean = None
enum_of_type (Enum e) = Some e

abbrev pub enum_of_kind : Kind → Option ℕ
enum_of_kind (Attribute t unique unsettable default) = enum_of_type t
enum_of_kind (Reference target containment opposite) = None

-- the enumeration that is the type of a feature; none if the type is no enumeration, or if no feature has the number
abbrev pub enum_of : Metamodel → FeatureNo → Option ℕ
enum_of m f = option_and_then (λ g. enum_of_kind g.kind) (lookups.feature m f)

-- the name of a feature's value, if the value is a literal of the feature's type; empty for any other value
abbrev pub literal_name : Metamodel → FeatureNo → Value → List ℕ
literal_name m f value.Null = []
literal_name m f (value.Bool b) = []
literal_name m f (value.Int n) = []
literal_name m f (value.Text t) = []
literal_name m f (value.Literal i) = lookups.literal_text m f i
literal_name m f (value.Object o) = []
literal_name m f (value.Proxy t) = []
