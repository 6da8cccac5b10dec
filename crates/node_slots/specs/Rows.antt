-- The row of one node, and the row after one change. The entries of a node are the ends with no opposite that have the node as a value.
use Rattle.std.specs.Prelude.{◌≡◌, ℕ, zero, ◌+◌, ◌≤◌, Bool, true, false, List, [], ◌∷◌, ◌++◌, min, remove, IsPermutation, Option, Some, None, if◌then◌else◌}
use Rattle.mm_types.specs.Same.{same_feature}
use Rattle.mm_types.specs.declared.numbers.FeatureNo.{FeatureNo}
use Rattle.mm_types.specs.declared.end.End.{End}
use Rattle.mm_types.specs.declared.value.Value.{Value}
use Rattle.node_slots.specs.declared.slot.Pairing.{Pairing}
use Rattle.node_slots.specs.declared.slot.Slot.{Slot}
use Rattle.node_slots.specs.declared.row.Row.{Row}
use Rattle.node_slots.specs.declared.row.RowEdit.{RowEdit}
use Rattle.node_slots.specs.declared.row.RowEdit.TheVariants.{Change, Hold, Enter, Leave, ForgetEntries}
use Rattle.node_slots.specs.Slots.{CanEdit, mixed_of, pairing_after, pairing_of, places_of, slot_edit_capacity, slot_in, values_after, values_of}

---------------------------------------------------------------- what a row says

abbrev pub row_slots : Option Row → List Slot
row_slots None = []
row_slots (Some r) = r.slots

abbrev pub row_slot : Option Row → FeatureNo → Option Slot
row_slot o f = slot_in (row_slots o) f

abbrev pub row_vals : Option Row → FeatureNo → List Value
row_vals o f = values_of (row_slot o f)

abbrev pub row_pairing : Option Row → FeatureNo → Pairing
row_pairing o f = pairing_of (row_slot o f)

abbrev pub row_hold : Option Row → Option End
row_hold None = None
row_hold (Some r) = r.holder

abbrev pub row_entered : Option Row → List End
row_entered None = []
row_entered (Some r) = r.entered.items

-- for how many more values of a feature capacity is reserved
abbrev pub row_indexes : Option Row → FeatureNo → ℕ
row_indexes o f = places_of (row_slot o f)

-- whether a feature may have values other than objects
abbrev pub row_mixed : Option Row → FeatureNo → Bool
row_mixed o f = mixed_of (row_slot o f)

-- for how many more entries of the node capacity is reserved
abbrev pub row_entries : Option Row → ℕ
row_entries None = zero
row_entries (Some r) = min r.promised r.entered.spare

abbrev pub is_row : Option Row → Bool
is_row None = false
is_row (Some r) = true

---------------------------------------------------------------- one change

-- the values of the feature g after a change
abbrev pub vals_after : RowEdit → FeatureNo → List Value → List Value
vals_after (Change f x) g vs = if same_feature f g then values_after x vs else vs
vals_after (Hold h) g vs = vs
vals_after (Enter d) g vs = vs
vals_after (Leave i) g vs = vs
vals_after (ForgetEntries n) g vs = vs

-- the pairing of the feature g after a change. A pairing has the opposite of g, if g has one, and the containing feature: g or its
-- opposite, if one of the two is a containment
abbrev pub told_after : RowEdit → FeatureNo → Pairing → Pairing
told_after (Change f x) g p = if same_feature f g then pairing_after x p else p
told_after (Hold h) g p = p
told_after (Enter d) g p = p
told_after (Leave i) g p = p
told_after (ForgetEntries n) g p = p

abbrev pub hold_after : RowEdit → Option End → Option End
hold_after (Change f x) h = h
hold_after (Hold o) h = o
hold_after (Enter d) h = h
hold_after (Leave i) h = h
hold_after (ForgetEntries n) h = h

abbrev pub entered_after : RowEdit → List End → List End
entered_after (Change f x) ds = ds
entered_after (Hold o) ds = ds
entered_after (Enter d) ds = ds ++ d ∷ []
entered_after (Leave i) ds = remove ds i
entered_after (ForgetEntries n) ds = ds

-- how much a change takes of the capacity for values of the feature g
abbrev pub places_taken : RowEdit → FeatureNo → ℕ
places_taken (Change f x) g = if same_feature f g then slot_edit_capacity x else zero
places_taken (Hold h) g = zero
places_taken (Enter d) g = zero
places_taken (Leave i) g = zero
places_taken (ForgetEntries n) g = zero

-- how much a change takes of the capacity for entries
abbrev pub entries_taken : RowEdit → ℕ
entries_taken (Change f x) = zero
entries_taken (Hold h) = zero
entries_taken (Enter d) = 1
entries_taken (Leave i) = zero
entries_taken (ForgetEntries n) = n

-- there is capacity for what the change adds, and the change takes back no more capacity than is reserved. A value other than an object is
-- added only to an end that may have values other than objects. An end that contains the node is recorded only if the node has a row
abbrev pub RowFits : RowEdit → Option Row → Type 0
RowFits (Change f x) o = (slot_edit_capacity x ≤ row_indexes o f) × CanEdit (row_mixed o f) x
RowFits (Hold None) o = Unit {0}
RowFits (Hold (Some d)) o = is_row o ≡ true
RowFits (Enter d) o = 1 ≤ row_entries o
RowFits (Leave i) o = Unit {0}
RowFits (ForgetEntries n) o = n ≤ row_entries o

pub record IsRowEdited (x : RowEdit) (old new : Option Row) : Type 0 where
  pub vals : (g : FeatureNo) → row_vals new g ≡ vals_after x g (row_vals old g)
  pub pairing : (g : FeatureNo) → row_pairing new g ≡ told_after x g (row_pairing old g)
  pub hold : row_hold new ≡ hold_after x (row_hold old)
  pub entered : row_entered new ≡ entered_after x (row_entered old)
  pub places : (g : FeatureNo) → row_indexes old g ≤ row_indexes new g + places_taken x g
  pub mixed : (g : FeatureNo) → row_mixed new g ≡ row_mixed old g
  pub entries : row_entries old ≤ row_entries new + entries_taken x
  pub kept : is_row new ≡ is_row old

-- the row of the node with the number i is changed, and no other row
pub record AreRowsEdited (i : ℕ) (x : RowEdit) (old new : ℕ → Option Row) : Type 0 where
  pub here : IsRowEdited x (old i) (new i)
  pub others : (j : ℕ) → ((j ≡ i) → ⊥) → new j ≡ old j

-- the row has the same content and no less capacity; a feature that could have values other than objects still can. A node that had no row
-- may have an empty one now
pub record IsRowGrown (old new : Option Row) : Type 0 where
  pub vals : (g : FeatureNo) → row_vals new g ≡ row_vals old g
  pub pairing : (g : FeatureNo) → row_pairing new g ≡ row_pairing old g
  pub hold : row_hold new ≡ row_hold old
  pub entered : row_entered new ≡ row_entered old
  pub places : (g : FeatureNo) → row_indexes old g ≤ row_indexes new g
  pub mixed : (g : FeatureNo) → row_mixed old g ≡ true → row_mixed new g ≡ true
  pub entries : row_entries old ≤ row_entries new

abbrev pub AreRowsGrown : (ℕ → Option Row) → (ℕ → Option Row) → Type 0
AreRowsGrown old new = (j : ℕ) → IsRowGrown (old j) (new j)

-- the same row, except that its entries may be in a different order
pub record IsRowReordered (old new : Option Row) : Type 0 where
  pub vals : (g : FeatureNo) → row_vals new g ≡ row_vals old g
  pub pairing : (g : FeatureNo) → row_pairing new g ≡ row_pairing old g
  pub hold : row_hold new ≡ row_hold old
  pub entered : IsPermutation (row_entered old) (row_entered new)
  pub places : (g : FeatureNo) → row_indexes new g ≡ row_indexes old g
  pub mixed : (g : FeatureNo) → row_mixed new g ≡ row_mixed old g
  pub entries : row_entries new ≡ row_entries old
  pub kept : is_row new ≡ is_row old

abbrev pub AreRowsReordered : (ℕ → Option Row) → (ℕ → Option Row) → Type 0
AreRowsReordered old new = (j : ℕ) → IsRowReordered (old j) (new j)
