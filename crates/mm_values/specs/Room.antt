-- The values of a repository, and when there is capacity for a plan.
use Rattle.std.specs.Prelude.{ℕ, ◌+◌, ◌≤◌, ◌&&◌, Bool, true, false, List, Option, Some, None, is_some, IfSome, length, count_by, sum_by, nat_eq, All, if◌then◌else◌}
use Rattle.std.specs.List.{list_any}
use Rattle.mm_types.specs.declared.numbers.FeatureNo.{FeatureNo}
use Rattle.mm_types.specs.declared.numbers.ObjectNo.{ObjectNo}
use Rattle.mm_values.specs.declared.value_edit.ValueEdit.{ValueEdit}
use Rattle.mm_values.specs.declared.value_edit.ValueEdit.TheVariants.{NewObject, PutList, InsertValue, NewUri}
use Rattle.mm_values.specs.declared.values.Values.{Values}
use Rattle.mm_values.specs.Values.{ValuesState}
use Rattle.mm_values.specs.Slots.{Slots, objects_of, none_taken, taken_at, HasPlaceAt}

abbrev pub values_of : Values → ValuesState
values_of v = record { objects = objects_of v.objects; uris = v.uris.uris }

abbrev pub is_new_object : ValueEdit → Bool
is_new_object (NewObject c) = true
is_new_object _ = false

abbrev pub is_new_uri : ValueEdit → Bool
is_new_uri (NewUri u) = true
is_new_uri _ = false

-- whether an edit inserts a value into the list of object o under attribute f
abbrev pub is_insert_at : ℕ → ℕ → ValueEdit → Bool
is_insert_at o f (InsertValue x g i w u) = nat_eq o x.0 && nat_eq f g.0
is_insert_at o f _ = false

-- the list into which an edit inserts a value, named by its object and attribute; `None` if the edit inserts no value
abbrev pub inserted_in : ValueEdit → Option (ObjectNo × FeatureNo)
inserted_in (InsertValue x g i w u) = Some (x, g)
inserted_in _ = None

abbrev pub is_insert : ValueEdit → Bool
is_insert e = is_some (inserted_in e)

-- whether an edit inserts a value into the given list; false if no list is given
abbrev pub is_insert_in : Option (ObjectNo × FeatureNo) → ValueEdit → Bool
is_insert_in None e = false
is_insert_in (Some p) e = is_insert_at p.0.0 p.1.0 e

-- how much capacity an edit takes in the list of each object under each attribute: how many values the edit puts or inserts there
abbrev pub places_taken : ValueEdit → ℕ → ℕ → ℕ
places_taken (PutList x g list flag) = taken_at x g (length list)
places_taken (InsertValue x g i w u) = taken_at x g 1
places_taken _ = none_taken

-- how much capacity a plan needs in the list of the object o under the attribute f: 0 if the plan inserts no value into this list, and
-- otherwise what all edits of the plan take there
abbrev pub capacity_needed : List ValueEdit → ℕ → ℕ → ℕ
capacity_needed plan o f = if list_any (is_insert_at o f) plan then sum_by (λ e. places_taken e o f) plan else 0

-- there is capacity for an edit of a plan: the list that the edit puts, or into which it inserts a value, has the capacity that the whole
-- plan needs in this list, as `HasPlaceAt` says. For other edits nothing is required
abbrev pub HasPlaceFor : Slots → List ValueEdit → ValueEdit → Type 0
HasPlaceFor r plan (PutList x g list flag) = HasPlaceAt r x.0 g.0 (capacity_needed plan x.0 g.0)
HasPlaceFor r plan (InsertValue x g i w u) = HasPlaceAt r x.0 g.0 (capacity_needed plan x.0 g.0)
HasPlaceFor r plan _ = Unit {0}

-- if a list is given, it has the capacity that the plan needs in it
abbrev pub HasPlacesIn : Slots → List ValueEdit → Option (ObjectNo × FeatureNo) → Type 0
HasPlacesIn r plan list = IfSome list (λ p. HasPlaceAt r p.0.0 p.1.0 (capacity_needed plan p.0.0 p.1.0))

-- the plan can be applied without taking memory
pub record HasRoom (v : Values) (plan : List ValueEdit) : Type 0 where
  pub slots : v.objects.next + count_by is_new_object plan ≤ length v.objects.lists
  pub places : All (HasPlaceFor v.objects plan) plan
  pub uris : count_by is_new_uri plan ≤ v.uris.room
