-- Edits of one list.
use Rattle.std.specs.Prelude.{ℕ, List, insert, remove}
use Rattle.mm_types.specs.Lists.{values_after_move}
use Rattle.mm_types.specs.declared.value.Value.{Value}
use Rattle.mm_values.specs.Attributes.{HasPlace}
use Rattle.mm_values.specs.declared.attribute_lists.Entry.{Entry}
use Rattle.mm_values.specs.declared.list_edit.ListEdit.{ListEdit}
use Rattle.mm_values.specs.declared.list_edit.ListEdit.TheVariants.{Insert, Remove, Move}

abbrev pub list_after_edit : ListEdit → List Value → List Value
list_after_edit (Insert i v) vs = insert vs i v
list_after_edit (Remove i) vs = remove vs i
list_after_edit (Move to from) vs = values_after_move vs to from

-- how much capacity an edit takes in its list
abbrev pub list_edit_capacity : ListEdit → ℕ
list_edit_capacity (Insert i v) = 1
list_edit_capacity (Remove i) = 0
list_edit_capacity (Move to from) = 0

-- the list of the attribute f has the capacity that an edit needs: an insert needs an entry whose list can take one more value, and a
-- removal or a move needs nothing
abbrev pub IsReadyFor : List Entry → ℕ → ListEdit → Type 0
IsReadyFor l f (Insert i v) = HasPlace l f 1
IsReadyFor l f (Remove i) = Unit {0}
IsReadyFor l f (Move to from) = Unit {0}
