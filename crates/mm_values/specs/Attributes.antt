-- What a list of entries stores under each attribute, and how many more values the list of an entry can take without taking memory.
use Rattle.std.specs.Prelude.{◌≡◌, ℕ, ◌<◌, ◌≤◌, false, List, [], ◌∷◌, length, nat_eq, slice_index_or, unwrap_or, if◌then◌else◌}
use Rattle.std.specs.FinMap as map
use Rattle.mm_types.specs.declared.numbers.FeatureNo.{FeatureNo}
use Rattle.mm_types.specs.declared.value.Value.{Value}
use Rattle.mm_values.specs.declared.attribute_lists.Entry.{Entry}
use Rattle.mm_values.specs.Stored.{Stored, StoredMap, list_changed, nothing_stored, with_stored}

abbrev pub stored_of : Entry → Stored
stored_of e = record { list = e.list.items; flag = e.flag }

-- what the entries store: under each attribute, the values and the flag of the first entry that the attribute has
abbrev pub stored_in : List Entry → StoredMap
stored_in [] = map.empty
stored_in (e ∷ l) = with_stored (stored_in l) e.feature.0 (stored_of e)

abbrev pub stored_under : List Entry → FeatureNo → Stored
stored_under l f = unwrap_or (map.get (stored_in l) f.0) nothing_stored

-- the map m after the function g changed the list of values under the attribute f; the set flag of f stays as it was
abbrev pub change_stored : StoredMap → ℕ → (List Value → List Value) → StoredMap
change_stored m f g = with_stored m f (list_changed g (unwrap_or (map.get m f) nothing_stored))

-- an entry for the attribute f that is made in advance: it has no values and no capacity, and its flag is off
abbrev pub place_for : ℕ → Entry
place_for f = record { feature = record { 0 = f }; list = record { items = []; spare = 0 }; flag = false }

abbrev pub feature_at : List Entry → ℕ → ℕ
feature_at l i = let e = slice_index_or l i (place_for 0) in e.feature.0

-- the attribute numbers rise along the list, so no attribute comes twice
abbrev pub IsRising : List Entry → Type 0
IsRising l = (i j : ℕ) → i < j → j < length l → feature_at l i < feature_at l j

-- the entry at index i is the entry of the attribute f
pub record IsAt (l : List Entry) (f i : ℕ) : Type 0 where
  pub in_range : i < length l
  pub has_feature : feature_at l i ≡ f

-- a new entry of the attribute f belongs at index i: the entries before index i have attribute numbers smaller than f, and the entries from
-- index i on have greater ones
pub record IsGapFor (l : List Entry) (f i : ℕ) : Type 0 where
  pub in_range : i ≤ length l
  pub smaller_before : (j : ℕ) → j < i → feature_at l j < f
  pub greater_after : (j : ℕ) → i ≤ j → j < length l → f < feature_at l j

-- how many more values the list of the entry at index i can take without taking memory; 0 if there is no entry at index i
abbrev pub spare_at : List Entry → ℕ → ℕ
spare_at l i = let e = slice_index_or l i (place_for 0) in e.list.spare

-- the attribute f has an entry, and the entry's list can take n more values without taking memory
pub record HasPlace (l : List Entry) (f n : ℕ) : Type 0 where
  pub index : ℕ
  pub is_at : IsAt l f index
  pub spare : n ≤ spare_at l index

-- how much capacity is taken from the list under the attribute q, if k is taken from the list under the attribute f: k if q is f, else 0
abbrev pub taken_of : ℕ → ℕ → ℕ → ℕ
taken_of f k q = if nat_eq q f then k else 0
