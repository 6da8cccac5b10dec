-- The values of a node's features, and these values after one change.
use Rattle.std.specs.Prelude.{◌≡◌, ℕ, ◌+◌, ◌≤◌, Bool, true, false, List, [], ◌∷◌, ◌++◌, insert, min, remove, Option, Some, None, unwrap_or, if◌then◌else◌}
use Rattle.mm_types.specs.Lists.{values_after_move}
use Rattle.mm_types.specs.Same.{same_feature}
use Rattle.mm_types.specs.declared.numbers.FeatureNo.{FeatureNo}
use Rattle.mm_types.specs.declared.value.Value.{Value}
use Rattle.end_values.specs.EndValues.{CanHave}
use Rattle.node_slots.specs.declared.slot.Pairing.{Pairing}
use Rattle.node_slots.specs.declared.slot.Slot.{Slot}
use Rattle.node_slots.specs.declared.slot.SlotEdit.{SlotEdit}
use Rattle.node_slots.specs.declared.slot.SlotEdit.TheVariants.{Insert, Push, Remove, Move, Forget}

-- the pairing of a feature that has neither an opposite nor a containing feature
abbrev pub no_pairing : Pairing
no_pairing = record { opposite = None; container = None }

---------------------------------------------------------------- one change

abbrev pub values_after : SlotEdit → List Value → List Value
values_after (Insert i v p) vs = insert vs i v
values_after (Push v p) vs = vs ++ v ∷ []
values_after (Remove i) vs = remove vs i
values_after (Move to from) vs = values_after_move vs to from
values_after (Forget n) vs = vs

abbrev pub pairing_after : SlotEdit → Pairing → Pairing
pairing_after (Insert i v p) q = unwrap_or p q
pairing_after (Push v p) q = p
pairing_after (Remove i) q = q
pairing_after (Move to from) q = q
pairing_after (Forget n) q = q

-- how much capacity for values a change takes
abbrev pub slot_edit_capacity : SlotEdit → ℕ
slot_edit_capacity (Insert i v p) = 1
slot_edit_capacity (Push v p) = 1
slot_edit_capacity (Remove i) = 0
slot_edit_capacity (Move to from) = 0
slot_edit_capacity (Forget n) = n

-- whether a change may be made to a list; `mixed` says whether the list may have values other than objects
abbrev pub CanEdit : Bool → SlotEdit → Type 0
CanEdit mixed (Insert i v p) = CanHave mixed v
CanEdit mixed (Push v p) = CanHave mixed v
CanEdit mixed (Remove i) = Unit {0}
CanEdit mixed (Move to from) = Unit {0}
CanEdit mixed (Forget n) = Unit {0}

-- the number of further values for which capacity is reserved in a slot
abbrev pub slot_places : Slot → ℕ
slot_places s = min s.promised s.values.spare

-- the change is made, and takes no more capacity than `slot_edit_capacity` says
pub record IsSlotEdited (x : SlotEdit) (old new : Slot) : Type 0 where
  pub feature : new.feature ≡ old.feature
  pub values : new.values.items ≡ values_after x old.values.items
  pub pairing : new.pairing ≡ pairing_after x old.pairing
  pub places : slot_places old ≤ slot_places new + slot_edit_capacity x
  pub mixed : new.values.mixed ≡ old.values.mixed

---------------------------------------------------------------- the slots of a node

-- the first slot of a feature; none if the feature has no slot
abbrev pub slot_in : List Slot → FeatureNo → Option Slot
slot_in [] f = None
slot_in (s ∷ ss) f = if same_feature s.feature f then Some s else slot_in ss f

abbrev pub values_of : Option Slot → List Value
values_of None = []
values_of (Some s) = s.values.items

abbrev pub pairing_of : Option Slot → Pairing
pairing_of None = no_pairing
pairing_of (Some s) = s.pairing

-- for how many more values of a feature capacity is reserved
abbrev pub places_of : Option Slot → ℕ
places_of None = 0
places_of (Some s) = slot_places s

-- whether a feature may have values other than objects
abbrev pub mixed_of : Option Slot → Bool
mixed_of None = false
mixed_of (Some s) = s.values.mixed

-- a feature is changed, whether it has a slot or not
pub record IsFeatureEdited (x : SlotEdit) (old new : Option Slot) : Type 0 where
  pub values : values_of new ≡ values_after x (values_of old)
  pub pairing : pairing_of new ≡ pairing_after x (pairing_of old)
  pub places : places_of old ≤ places_of new + slot_edit_capacity x
  pub mixed : mixed_of new ≡ mixed_of old

-- the feature f is changed, and no other feature
pub record AreSlotsEdited (f : FeatureNo) (x : SlotEdit) (old new : List Slot) : Type 0 where
  pub here : IsFeatureEdited x (slot_in old f) (slot_in new f)
  pub others : (g : FeatureNo) → ((f.0 ≡ g.0) → ⊥) → slot_in new g ≡ slot_in old g

-- the same values and pairing, with no less capacity; a feature that could have values other than objects still can
pub record IsFeatureGrown (old new : Option Slot) : Type 0 where
  pub values : values_of new ≡ values_of old
  pub pairing : pairing_of new ≡ pairing_of old
  pub places : places_of old ≤ places_of new
  pub mixed : mixed_of old ≡ true → mixed_of new ≡ true

abbrev pub AreSlotsGrown : List Slot → List Slot → Type 0
AreSlotsGrown old new = (g : FeatureNo) → IsFeatureGrown (slot_in old g) (slot_in new g)
