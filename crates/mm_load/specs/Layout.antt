-- The layout of a metamodel document: the fields of each kind of object. Any other key is refused.
use Rattle.std.specs.Prelude.{ℕ, ℤ, pos, ◌||◌, Bool, true, false, not, List, [], Option, None, codes}
use Rattle.std.specs.Option.{option_or}
use Rattle.std.specs.Ordering.{int_eq}
use Rattle.serde_json.specs.Data.{Data}
use Rattle.mm_types.specs.Raw.{RawMetamodel}
use Rattle.mm_types.specs.declared.class.Enumeration.{Enumeration}
use Rattle.mm_types.specs.declared.raw.RawClass.{RawClass}
use Rattle.mm_types.specs.declared.raw.RawFeature.{RawFeature}
use Rattle.mm_types.specs.declared.raw.RawKind.{RawKind}
use Rattle.mm_types.specs.declared.raw.RawKind.TheVariants.{Attribute, Reference}
use Rattle.mm_load.specs.declared.head.Head.{Head}
use Rattle.json_fields.specs.Fields.{Fields, ◌also◌, ◌such_that◌, array_of, array_of_some, flag, given_value, makes, object_of, optional_field, required_field, text, whole_number, word}

-- ---- features

abbrev pub new_head : List ℕ → List ℕ → ℤ → ℤ → Head
new_head name type_name lower upper = record { name = name; type_name = type_name; lower = lower; upper = upper }

-- the fields that attributes and references have in common
abbrev pub feature_fields : Fields Head
feature_fields = makes new_head
    -- its name
    also required_field (codes "name") text
    -- the name of its type
    also required_field (codes "type") text
    -- its lower bound; 0 if the key is absent
    also optional_field (codes "lower") whole_number (pos 0)
    -- its upper bound; 1 if the key is absent
    also optional_field (codes "upper") whole_number (pos 1)

abbrev pub new_attribute : Unit {0} → Bool → Bool → Option (List ℕ) → RawKind
new_attribute kind unique unsettable default = Attribute unique unsettable default

-- the fields of an attribute that are not among `feature_fields`
abbrev pub attribute_fields : Fields RawKind
attribute_fields = makes new_attribute
    -- its kind, which is `attribute`
    also required_field (codes "kind") (word (codes "attribute"))
    -- whether it repeats no value; true if the key is absent
    also optional_field (codes "unique") flag true
    -- whether it is unsettable; false if the key is absent
    also optional_field (codes "unsettable") flag false
    -- the literal of its default; none if the key is absent
    also optional_field (codes "default") (given_value text) None

abbrev pub new_reference : Unit {0} → Bool → Option (List ℕ) → RawKind
new_reference kind containment opposite = Reference containment opposite

-- the fields of a reference that are not among `feature_fields`
abbrev pub reference_fields : Fields RawKind
reference_fields = makes new_reference
    -- its kind, which is `reference`
    also required_field (codes "kind") (word (codes "reference"))
    -- whether it contains its objects; false if the key is absent
    also optional_field (codes "containment") flag false
    -- the name of its opposite; none if the key is absent
    also optional_field (codes "opposite") (given_value text) None

abbrev pub new_feature : Head → RawKind → RawFeature
new_feature head kind =
    record { name = head.name; type_name = head.type_name; lower = head.lower; upper = head.upper; kind = kind }

abbrev pub is_unsettable : RawKind → Bool
is_unsettable (Attribute unique unsettable default) = unsettable
is_unsettable (Reference containment opposite) = false

-- whether a feature is single (its upper bound is 1), or is not unsettable
abbrev pub unsets_one : RawFeature → Bool
unsets_one f = not (is_unsettable f.kind) || int_eq f.upper (pos 1)

-- the attribute that a JSON value describes; none if the value is no object, if it has a key other than those of `feature_fields` and
-- `attribute_fields`, if one of these fields can't be read, or if the attribute is unsettable and not single
unfoldable pub attribute : Data → Option RawFeature
attribute d = object_of (makes new_feature also feature_fields also attribute_fields) d such_that unsets_one

-- the reference that a JSON value describes; none if the value is no object, if it has a key other than those of `feature_fields` and
-- `reference_fields`, or if one of these fields can't be read
unfoldable pub reference : Data → Option RawFeature
reference = object_of (makes new_feature also feature_fields also reference_fields)

-- the attribute or the reference that a JSON value describes; none if the value describes neither of them
unfoldable pub feature : Data → Option RawFeature
feature d = option_or (attribute d) (reference d)

-- ---- classes

abbrev pub new_class : List ℕ → Bool → List (List ℕ) → List RawFeature → RawClass
new_class name is_abstract supers features =
    record { name = name; is_abstract = is_abstract; supers = supers; features = features }

-- the fields of a class
abbrev pub class_fields : Fields RawClass
class_fields = makes new_class
    -- its name
    also required_field (codes "name") text
    -- whether it is abstract, so that no object has it as its class; false if the key is absent
    also optional_field (codes "abstract") flag false
    -- the names of its supertypes, in order; none if the key is absent
    also optional_field (codes "supers") (array_of text) []
    -- the features that it declares, in order; none if the key is absent
    also optional_field (codes "features") (array_of feature) []

-- the class that a JSON value describes; none if the value is no object, if it has a key other than those of `class_fields`, or if one of
-- these fields can't be read
unfoldable pub class : Data → Option RawClass
class = object_of class_fields

-- ---- enumerations

abbrev pub new_enumeration : List ℕ → List (List ℕ) → Enumeration
new_enumeration name literals = record { name = name; literals = literals }

-- the fields of an enumeration
abbrev pub enumeration_fields : Fields Enumeration
enumeration_fields = makes new_enumeration
    -- its name
    also required_field (codes "name") text
    -- its literals, in order; at least one
    also required_field (codes "literals") (array_of_some text)

-- the enumeration that a JSON value describes; none if the value is no object, if it has a key other than those of `enumeration_fields`, or
-- if one of these fields can't be read
unfoldable pub enumeration : Data → Option Enumeration
enumeration = object_of enumeration_fields

-- ---- documents

abbrev pub new_document : List Enumeration → List RawClass → RawMetamodel
new_document enums classes = record { enums = enums; classes = classes }

-- the fields of the document
abbrev pub document_fields : Fields RawMetamodel
document_fields = makes new_document
    -- the enumerations, in order; none if the key is absent
    also optional_field (codes "enums") (array_of enumeration) []
    -- the classes, in order
    also required_field (codes "classes") (array_of class)

-- the metamodel that the JSON value of a document describes; none if the value is no object, if it has a key other than those of
-- `document_fields`, or if one of these fields can't be read
unfoldable pub document : Data → Option RawMetamodel
document = object_of document_fields
