-- Look-ups in a resolved metamodel: its classes, features and enumerations by number and by name, and the values that its features may
-- have.
use Rattle.std.specs.Prelude.{ℕ, zero, suc, ◌<◌, ◌&&◌, ◌||◌, pos, Bool, true, false, not, List, [], length, map, position, slice_get, nat_lt, Option, None, is_some, option_map, option_and_then, unwrap_or, nat_eq}
use Rattle.std.specs.List.{find, list_any}
use Rattle.std.specs.Option.{option_map_or}
use Rattle.std.specs.Ordering.{int_eq}
use Rattle.std.specs.Str.{bytes_eq}
use Rattle.mm_types.specs.Graph.{Conforms, by_class}
use Rattle.mm_types.specs.Integers.{is_of_bits}
use Rattle.mm_types.specs.Resolved.{Metamodel, class_no, feature_no, literal_named}
use Rattle.mm_types.specs.declared.class.Class.{Class}
use Rattle.mm_types.specs.declared.feature.Feature.{Feature}
use Rattle.mm_types.specs.declared.feature.Kind.{Kind}
use Rattle.mm_types.specs.declared.feature.Kind.TheVariants.{Attribute, Reference}
use Rattle.mm_types.specs.declared.feature.DataType.{DataType}
use Rattle.mm_types.specs.declared.feature.DataType.TheVariants.{EString, EInt, ELong, EBoolean, Enum}
use Rattle.mm_types.specs.declared.value.Value.{Value}
use Rattle.mm_types.specs.declared.value.Value.TheVariants as value
use Rattle.mm_types.specs.declared.numbers.ClassNo.{ClassNo}
use Rattle.mm_types.specs.declared.numbers.FeatureNo.{FeatureNo}
use Rattle.mm_types.specs.declared.numbers.ObjectNo.{ObjectNo}

abbrev pub class : Metamodel → ClassNo → Option Class
class m c = slice_get m.classes c.0

-- whether some class has the number c, and this class is not abstract
abbrev pub is_concrete : Metamodel → ClassNo → Bool
is_concrete m c = option_map_or (λ k. not k.is_abstract) (class m c) false

abbrev pub feature : Metamodel → FeatureNo → Option Feature
feature m f = slice_get m.features f.0

abbrev pub class_by_name : Metamodel → List ℕ → Option ClassNo
class_by_name m name = option_map class_no (position (λ c. bytes_eq c.name name) m.classes)

-- all features of a class, own and inherited; none if no class has the number
abbrev pub features : Metamodel → ClassNo → Option (List FeatureNo)
features m c = option_map (λ k. k.all) (class m c)

-- whether a feature is among all features of a class
abbrev pub has_feature : Metamodel → ClassNo → FeatureNo → Bool
has_feature m c f = option_map_or (λ all. list_any (λ g. nat_eq g.0 f.0) all) (features m c) false

-- the name of the feature with the number f; empty if no feature has the number. fs has the features of a metamodel by number
abbrev pub name_in : List Feature → FeatureNo → List ℕ
name_in fs f = option_map_or (λ g. g.name) (slice_get fs f.0) []

-- the name of a class; empty if no class has the number
abbrev pub class_name : Metamodel → ClassNo → List ℕ
class_name m c = option_map_or (λ k. k.name) (class m c) []

abbrev pub feature_name : Metamodel → FeatureNo → List ℕ
feature_name m = name_in m.features

-- the first feature with a given name among all features of a class; none if no feature of the class has the name, or if no class has the
-- number
abbrev pub feature_by_name : Metamodel → ClassNo → List ℕ → Option FeatureNo
feature_by_name m c name = option_and_then (find (λ f. bytes_eq (feature_name m f) name)) (features m c)

-- the direct supertypes of each class
abbrev pub supertypes : Metamodel → List (List ℕ)
supertypes m = map (λ c. map (λ s. s.0) c.supers) m.classes

-- sub is the number of a class, and this class is the class sup, or inherits from sup directly or through other classes
abbrev pub ConformsTo : Metamodel → ClassNo → ClassNo → Type 0
ConformsTo m sub sup = (sub.0 < length m.classes) × Conforms (supertypes m) sub.0 sup.0

-- whether d is c, or is reached from c by at most n steps
abbrev pub conforms_within : List (List ℕ) → ℕ → ℕ → ℕ → Bool
conforms_within g zero c d = nat_eq c d
conforms_within g (suc n) c d = nat_eq c d || list_any (λ e. conforms_within g n e d) (by_class g c)

-- whether `ConformsTo` is true. A search of as many steps as there are classes is enough, since a shortest path of supertypes has no more
-- steps than there are classes
abbrev pub conforms : Metamodel → ClassNo → ClassNo → Bool
conforms m sub sup = nat_lt sub.0 (length m.classes) && conforms_within (supertypes m) (length m.classes) sub.0 sup.0

abbrev pub kind_default : Kind → Value
kind_default (Attribute t unique unsettable default) = default
kind_default (Reference target containment opposite) = value.Null

-- the default of a feature, which is null for a reference; none if no class declares a feature with the number
abbrev pub default : Metamodel → FeatureNo → Option Value
default m f = option_map (λ g. kind_default g.kind) (feature m f)

abbrev pub kind_opposite : Kind → Option FeatureNo
kind_opposite (Attribute t unique unsettable default) = None
kind_opposite (Reference target containment opposite) = opposite

abbrev pub opposite : Metamodel → FeatureNo → Option FeatureNo
opposite m f = option_and_then (λ g. kind_opposite g.kind) (feature m f)

abbrev pub is_containment_kind : Kind → Bool
is_containment_kind (Attribute t unique unsettable default) = false
is_containment_kind (Reference target containment opposite) = containment

-- whether a feature is a container reference, that is, a reference whose opposite is a containment
abbrev pub is_container : Metamodel → FeatureNo → Bool
is_container m f = option_map_or (λ g. is_containment_kind g.kind) (option_and_then (feature m) (opposite m f)) false

-- the name of the literal at index i of the enumeration with the number e; none if there is no literal there
abbrev pub literal : Metamodel → ℕ → ℕ → Option (List ℕ)
literal m e i = option_and_then (λ en. slice_get en.literals i) (slice_get m.enums e)

-- the name of the literal at index i of the enumeration that is the type of an attribute; none if the type is no enumeration, if the
-- enumeration has no literal there, or if the feature is a reference
abbrev pub literal_in : Metamodel → Kind → ℕ → Option (List ℕ)
literal_in m (Attribute (Enum e) unique unsettable default) i = literal m e i
literal_in m _ i = None

abbrev pub literal_text : Metamodel → FeatureNo → ℕ → List ℕ
literal_text m f i = unwrap_or (option_and_then (λ g. literal_in m g.kind i) (feature m f)) []

abbrev pub literal_by_name : Metamodel → ℕ → List ℕ → Option ℕ
literal_by_name m e name = literal_named m.enums e name

-- the feature that has a resource's roots as values: a containment of objects of any class, without an upper bound and without an opposite
abbrev pub contents : Metamodel → FeatureNo
contents m = feature_no (length m.features)

abbrev pub is_single : Feature → Bool
is_single f = int_eq f.upper (pos 1)

-- whether a value belongs to a data type; null belongs to none
abbrev pub is_of_type : Metamodel → DataType → Value → Bool
is_of_type m EString (value.Text text) = true
is_of_type m EInt (value.Int n) = is_of_bits 32 n
is_of_type m ELong (value.Int n) = is_of_bits 64 n
is_of_type m EBoolean (value.Bool b) = true
is_of_type m (Enum e) (value.Literal i) = option_map_or (λ en. nat_lt i (length en.literals)) (slice_get m.enums e) false
is_of_type m _ _ = false

abbrev pub is_text_type : DataType → Bool
is_text_type EString = true
is_text_type _ = false

-- whether an attribute of the data type t may have the value v; `single` says whether the attribute is single. Only a single EString
-- attribute may be null
abbrev pub is_attribute_value : Metamodel → Bool → DataType → Value → Bool
is_attribute_value m single t value.Null = single && is_text_type t
is_attribute_value m single t v = is_of_type m t v

-- whether a feature of a kind is an attribute, and this attribute may have the value v; `single` says whether it is single
abbrev pub is_of_attribute : Metamodel → Bool → Kind → Value → Bool
is_of_attribute m single (Attribute t unique unsettable default) v = is_attribute_value m single t v
is_of_attribute m single (Reference target containment opposite) v = false

abbrev pub keeps : Metamodel → FeatureNo → Value → Bool
keeps m f v = option_map_or (λ g. is_of_attribute m (is_single g) g.kind v) (feature m f) false

-- whether a reference to the class `target` may be given a value. Every reference may be given an object whose class conforms to `target`.
-- A single reference may also be given null; `single` says whether the reference is single. No reference may be given a proxy, since
-- proxies come only from documents
abbrev pub is_reference_value : Metamodel → (ObjectNo → Option ClassNo) → Bool → ClassNo → Value → Bool
is_reference_value m class_of single target value.Null = single
is_reference_value m class_of single target (value.Object o) = option_map_or (λ c. conforms m c target) (class_of o) false
is_reference_value m class_of single target _ = false

-- whether a feature of a kind may be given the value v; `single` says whether the feature is single
abbrev pub is_of_kind : Metamodel → (ObjectNo → Option ClassNo) → Bool → Kind → Value → Bool
is_of_kind m class_of single (Attribute t unique unsettable default) v = is_attribute_value m single t v
is_of_kind m class_of single (Reference target containment opposite) v = is_reference_value m class_of single target v

abbrev pub is_object : Value → Bool
is_object (value.Object o) = true
is_object _ = false

-- whether a value is a live object; `class_of` gives the class of each live object, and none for any other object
abbrev pub is_live_object : (ObjectNo → Option ClassNo) → Value → Bool
is_live_object class_of (value.Object o) = is_some (class_of o)
is_live_object class_of _ = false

-- whether a feature may be given a value. If no class declares a feature with the number f, then f counts as `contents`, which may be given
-- any live object
abbrev pub takes : Metamodel → (ObjectNo → Option ClassNo) → FeatureNo → Value → Bool
takes m class_of f v = option_map_or (λ g. is_of_kind m class_of (is_single g) g.kind v) (feature m f) (is_live_object class_of v)
