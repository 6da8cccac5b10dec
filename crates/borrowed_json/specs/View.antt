-- By these definitions contracts see a JSON value of this crate as a value of `serde_json`.
use Rattle.std.specs.Prelude.{ℕ, List, fold, map}
use Rattle.std.specs.Borrow.{Bor}
use Rattle.serde_json.specs.Data.{Num, unsigned, negative, float, Data, null, boolean, number, string, array, object, Items, Members, no_members, put}
use Rattle.serde_json.specs.View.{items_of}
use Rattle.borrowed_json.specs.declared.number.Number.{Number}
use Rattle.borrowed_json.specs.declared.number.Number.TheVariants.{Unsigned, Negative, Float}
use Rattle.borrowed_json.specs.declared.value.Json.{Json, fold-Json}
use Rattle.borrowed_json.specs.declared.value.Json.TheOpen.{Json-F}

abbrev pub number_view : Number → Num
number_view (Unsigned n) = unsigned n
number_view (Negative z) = negative z
number_view (Float x) = float x

-- the members of an object as `serde_json` has them: the members ms are put in one after another, so of each key only the last value stays
abbrev pub members_of : List (Bor (List ℕ) × Data) → Members
members_of ms = fold (λ found m. put m.0.now m.1 found) no_members ms

-- the data of a value, given the data of the values directly inside it
abbrev pub view_step : Json-F Data → Data
view_step Json-F.Null = null
view_step (Json-F.Bool b) = boolean b
view_step (Json-F.Number n) = number (number_view n)
view_step (Json-F.String s) = string s.now
view_step (Json-F.Array v) = array (items_of v.now)
view_step (Json-F.Object v) = object (members_of v.now)

abbrev pub view : Json → Data
view = fold-Json Data view_step

abbrev pub items_view : List Json → Items
items_view vs = items_of (map view vs)

abbrev pub members_view : List (Bor (List ℕ) × Json) → Members
members_view ms = members_of (map (λ m. (m.0, view m.1)) ms)
