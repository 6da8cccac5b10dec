-- What a contract sees of the values of an end.
use Rattle.std.specs.Prelude.{◌≡◌, ℕ, Bool, true, false, List, map, Option, Some, None}
use Rattle.mm_types.specs.Same.{same_value}
use Rattle.mm_types.specs.declared.numbers.ObjectNo.{ObjectNo}
use Rattle.mm_types.specs.declared.value.Value.{Value}
use Rattle.mm_types.specs.declared.value.Value.TheVariants as value

-- the values in order; how many more values can be inserted without taking memory; and whether the list can have other values than objects
pub record EndValues : Type 0 where
  pub items : List Value
  pub spare : ℕ
  pub mixed : Bool

abbrev pub object_value : ObjectNo → Value
object_value o = value.Object o

-- objects as values
abbrev pub objects : List ObjectNo → List Value
objects os = map object_value os

-- a list may have a value: the value is an object, or mixed is true, which says that the list may have other values than objects
abbrev pub CanHave : Bool → Value → Type 0
CanHave mixed (value.Object o) = Unit {0}
CanHave mixed v = mixed ≡ true

-- whether the optional value is present and is the same as v
abbrev pub is_value : Value → Option Value → Bool
is_value v None = false
is_value v (Some w) = same_value v w
