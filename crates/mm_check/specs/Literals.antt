-- Whether a text is no literal of the type with a given name; true for each text if no data type and no enumeration has the name.
use Rattle.std.specs.Prelude.{ℕ, Bool, List, is_none, option_and_then}
use Rattle.mm_types.specs.Resolved.{data_type_named, literal_value}
use Rattle.mm_types.specs.declared.class.Enumeration.{Enumeration}

abbrev pub is_no_literal_of : List Enumeration → List ℕ → List ℕ → Bool
is_no_literal_of enums type_name literal = is_none (option_and_then (λ t. literal_value enums t literal) (data_type_named enums type_name))
