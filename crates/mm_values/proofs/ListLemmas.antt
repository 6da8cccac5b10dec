-- A list after an edit within it or past its end.
use Rattle.std.proofs.Common.{◌≡◌, ℕ, ◌-◌, ◌<◌, ◌≤◌, min, List, [], length, refl, sym, ap, arith}
use Rattle.std.proofs.lemmas.Option.{slice_get_past}
use Rattle.slot_lists.specs.Moved.{list_after_move}
use Rattle.slot_lists.proofs.MoveLemmas.{list_after_move-back, remove_nothing}
use Rattle.mm_types.specs.Lists.{put_back, values_after_move}
use Rattle.mm_types.specs.declared.value.Value.{Value}
use Rattle.mm_values.specs.Attributes.{HasPlace}
use Rattle.mm_values.specs.ListEdits.{list_after_edit, list_edit_capacity, IsReadyFor}
use Rattle.mm_values.specs.declared.attribute_lists.Entry.{Entry}
use Rattle.mm_values.specs.declared.list_edit.ListEdit.{ListEdit}
use Rattle.mm_values.specs.declared.list_edit.ListEdit.TheVariants.{Insert, Remove, Move}

-- a move within the list is `values_after_move`
pub list_after_move-values_after_move : (xs : List Value) (to from : ℕ) → from < length xs → list_after_move xs (min to (length xs - 1)) from ≡ values_after_move xs to from
list_after_move-values_after_move xs to from lt = list_after_move-back (λ o. put_back o xs to from) xs to from lt refl (λ x. refl)

-- past the end nothing moves
pub shifted_past : (xs : List Value) (to from : ℕ) → length xs ≤ from → xs ≡ values_after_move xs to from
shifted_past xs to from le = sym (ap (λ o. put_back o xs to from) (slice_get_past xs from le))

-- only an insert changes an empty list
pub changed_nothing : (l : List Entry) (f : ℕ) (e : ListEdit) → (HasPlace l f 1 → ⊥) → IsReadyFor l f e → list_after_edit e [] ≡ []
changed_nothing l f (Insert i v) none ready = absurd (none ready)
changed_nothing l f (Remove i) none ready = remove_nothing i
changed_nothing l f (Move to from) none ready = sym (shifted_past [] to from (omega arith))

-- a list that is ready has the capacity that the edit uses
pub is_ready : (l : List Entry) (f : ℕ) (e : ListEdit) (n : ℕ) → (HasPlace l f 1 → 1 ≤ n) → IsReadyFor l f e → list_edit_capacity e ≤ n
is_ready l f (Insert i v) n one ready = one ready
is_ready l f (Remove i) n one ready = omega arith
is_ready l f (Move to from) n one ready = omega arith
