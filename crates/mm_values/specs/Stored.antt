-- What an object stores under its attributes: values, and whether the attribute is set.
use Rattle.std.specs.Prelude.{ℕ, Bool, false, List, [], Option, Some, None, ◌&&◌, not, if◌then◌else◌}
use Rattle.std.specs.Ordering.{nat_cmp}
use Rattle.std.specs.FinMap as map
use Rattle.slot_lists.specs.Places.{Places}
use Rattle.mm_types.specs.Same.{is_nil}
use Rattle.mm_types.specs.declared.value.Value.{Value}

-- the values under an attribute, and the set flag of an unsettable attribute
pub record Stored : Type 0 where
  pub list : List Value
  pub flag : Bool

abbrev pub nothing_stored : Stored
nothing_stored = record { list = []; flag = false }

abbrev pub is_nothing : Stored → Bool
is_nothing h = is_nil h.list && not h.flag

-- what is stored under each attribute, by the attribute's number
abbrev pub StoredMap : Type 0
StoredMap = map.FinMap nat_cmp Stored

-- the map m with h under the attribute f; if h is nothing (`is_nothing`), the result has no entry for f
abbrev pub with_stored : StoredMap → ℕ → Stored → StoredMap
with_stored m f h = if is_nothing h then map.remove m f else map.insert m f h

-- h after the function g changed its list of values; the set flag stays as it was
abbrev pub list_changed : (List Value → List Value) → Stored → Stored
list_changed g h = record { list = g h.list; flag = h.flag }

-- the values of a list, or no values if there is no list
abbrev pub items_of : Option (Places Value) → List Value
items_of None = []
items_of (Some p) = p.items
