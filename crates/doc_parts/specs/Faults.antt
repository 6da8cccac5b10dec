-- The faults of a single object of a document.
use Rattle.std.specs.Prelude.{ℕ, ◌&&◌, ◌||◌, ◌==◌, Bool, false, not, List, length, nat_lt, is_some}
use Rattle.std.specs.List.{list_all, list_any}
use Rattle.std.specs.Option.{option_map_or}
use Rattle.serde_json.specs.Data.{Data}
use Rattle.serde_json.specs.Find.{as_object}
use Rattle.json_fields.specs.Fields.{keys_of}
use Rattle.mm_types.specs.Lookups as lookups
use Rattle.mm_types.specs.Resolved.{Metamodel}
use Rattle.mm_types.specs.Shapes.{is_bounded, shape}
use Rattle.mm_types.specs.declared.limits.TheConstants.{LEVELS}
use Rattle.mm_types.specs.declared.numbers.ClassNo.{ClassNo}
use Rattle.doc_parts.specs.Layout.{Written, written_object}
use Rattle.doc_parts.specs.Parts.{Entry, Part, entries, level_of, values_of}

---------------------------------------------------------------- tests of all parts

-- `of_written`: whether `holds` is true of some part that has the layout of an object. `of_entry`: whether `holds` is true of the content
-- of some feature of some part
abbrev pub of_written : (Written → Bool) → List Part → Bool
of_written holds ps = list_any (λ p. option_map_or holds (written_object p.json) false) ps

abbrev pub of_entry : Metamodel → (Entry → Bool) → List Part → Bool
of_entry m holds ps = list_any (λ p. list_any holds (entries m p.json)) ps

---------------------------------------------------------------- shapes, names, bounds and levels

-- whether data at a level lacks the layout of an object; below the roots only JSON objects are tested
abbrev pub is_misshapen_at : ℕ → Data → Bool
is_misshapen_at level d = not (is_some (written_object d)) && (level == 1 || is_some (as_object d))

abbrev pub is_misshapen : Part → Bool
is_misshapen p = is_misshapen_at (level_of p) p.json

-- whether the class of an object is unknown or abstract
abbrev pub has_no_class : Metamodel → Written → Bool
has_no_class m w = not (option_map_or (lookups.is_concrete m) (lookups.class_by_name m w.class) false)

-- whether a class has a feature of this name, and the feature is no container reference
abbrev pub is_readable : Metamodel → ClassNo → List ℕ → Bool
is_readable m c name = option_map_or (λ f. not (lookups.is_container m f)) (lookups.feature_by_name m c name) false

abbrev pub has_other_key : Metamodel → Written → Bool
has_other_key m w = option_map_or (λ c. not (list_all (is_readable m c) (keys_of w.features))) (lookups.class_by_name m w.class) false

abbrev pub is_long : Metamodel → Entry → Bool
is_long m e = not (is_bounded (shape m e.feature) (length (values_of m e)))

abbrev pub is_deep_at : ℕ → Bool
is_deep_at level = nat_lt LEVELS level

abbrev pub is_deep : Part → Bool
is_deep p = is_deep_at (level_of p)
