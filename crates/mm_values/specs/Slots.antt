-- How objects are kept in two columns: at the indexes below `next` are the objects that were made, and from the index `next` on there are
-- entries that are ready for new objects.
use Rattle.std.specs.Prelude.{◌≡◌, ℕ, ◌-◌, ◌<◌, ◌≤◌, ◌⊎◌, List, [], ◌∷◌, Option, None, length, nat_eq, take, slice_index_or, if◌then◌else◌}
use Rattle.std.specs.Option.{option_map}
use Rattle.std.specs.FinMap as map
use Rattle.mm_types.specs.declared.numbers.ClassNo.{ClassNo}
use Rattle.mm_types.specs.declared.numbers.FeatureNo.{FeatureNo}
use Rattle.mm_types.specs.declared.numbers.ObjectNo.{ObjectNo}
use Rattle.mm_values.specs.declared.attribute_lists.Entry.{Entry}
use Rattle.mm_values.specs.Attributes.{stored_in, taken_of, HasPlace}
use Rattle.mm_values.specs.ListEdits.{IsReadyFor}
use Rattle.mm_values.specs.declared.list_edit.ListEdit.{ListEdit}
use Rattle.mm_values.specs.Values.{Objects, ObjectState}

-- at the index that is an object's number, the column `classes` has the object's class (`None` if the object is not live), and the column
-- `lists` has the object's attribute lists; `next` is how many objects were made
pub record Slots : Type 0 where
  pub classes : List (Option ClassNo)
  pub lists : List (List Entry)
  pub next : ℕ

abbrev pub state_of : Option ClassNo → List Entry → Option ObjectState
state_of class lists = option_map (λ c. record { class = c; stored = stored_in lists }) class

-- the objects in the order of their numbers: each is read from the two entries that the columns have at its number
abbrev pub states_of : List (Option ClassNo) → List (List Entry) → Objects
states_of [] ls = []
states_of (c ∷ cs) [] = []
states_of (c ∷ cs) (l ∷ ls) = state_of c l ∷ states_of cs ls

abbrev pub objects_of : Slots → Objects
objects_of r = take r.next (states_of r.classes r.lists)

-- the columns have the same length, which is at least `next`, and the attribute lists from the index `next` on are ready for new objects:
-- they store nothing
pub record IsReady (r : Slots) : Type 0 where
  pub same_length : length r.classes ≡ length r.lists
  pub in_range : r.next ≤ length r.lists
  pub holds_nothing : (i : ℕ) (d : List Entry) → r.next ≤ i → i < length r.lists → stored_in (slice_index_or r.lists i d) ≡ map.empty

abbrev pub IsDead : Slots → ℕ → Type 0
IsDead r o = (o < r.next) × (slice_index_or r.classes o None ≡ None)

-- the object o has an entry for the attribute f, and the entry's list can take n more values without taking memory; nothing is required if
-- o is dead, or past the end of the columns
abbrev pub HasPlaceAt : Slots → ℕ → ℕ → ℕ → Type 0
HasPlaceAt r o f n = (d : List Entry) → o < length r.lists → IsDead r o ⊎ HasPlace (slice_index_or r.lists o d) f n

-- the list of the object o under the attribute f has the capacity that the edit e needs; nothing is required if o is dead, or past the end
-- of the columns
abbrev pub IsReadyAt : Slots → ℕ → ℕ → ListEdit → Type 0
IsReadyAt r o f e = (d : List Entry) → o < length r.lists → IsDead r o ⊎ IsReadyFor (slice_index_or r.lists o d) f e

-- how much capacity is taken in the list of each object o under each attribute f: `none_taken` takes none; `taken_at` takes k for the
-- object x and the attribute g, and none for other objects and attributes
abbrev pub none_taken : ℕ → ℕ → ℕ
none_taken o f = 0

abbrev pub taken_at : ObjectNo → FeatureNo → ℕ → ℕ → ℕ → ℕ
taken_at x g k o f = if nat_eq o x.0 then taken_of g.0 k f else 0

-- the column `lists` is as long as before; the list of each object o under each attribute f loses at most the capacity `taken o f`
pub record KeepsPlaces (taken : ℕ → ℕ → ℕ) (old new : Slots) : Type 0 where
  pub slots : length new.lists ≡ length old.lists
  pub places : (o f n : ℕ) → HasPlaceAt old o f n → HasPlaceAt new o f (n - taken o f)
