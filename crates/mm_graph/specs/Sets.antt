-- A set of classes, as a truth value at each class's number.
use Rattle.std.specs.Prelude.{ℕ, ◌≡◌, ◌≤◌, ◌⊎◌, ◌↔◌, Bool, true, false, not, List, length}
use Rattle.std.specs.List.{All, count_by, slice_index_or}
use Rattle.mm_types.specs.Graph.{Conforms, by_class}

abbrev pub is_in : List Bool → ℕ → Bool
is_in s k = slice_index_or s k false

-- the classes of a set are the classes for which P holds
abbrev pub IsSetOf : (ℕ → Type 0) → List Bool → Type 0
IsSetOf P s = (k : ℕ) → (is_in s k ≡ true) ↔ P k

-- every direct supertype of a class is in the set
abbrev pub HasSupers : List (List ℕ) → List Bool → ℕ → Type 0
HasSupers g s k = All (λ (e : ℕ). is_in s e ≡ true) (by_class g k)

-- classes were added to a set, and none was taken out: class c is in the new set; c conforms to each added class; the direct supertypes of
-- each added class are in the new set
pub record IsAdded (g : List (List ℕ)) (c : ℕ) (old new : List Bool) : Type 0 where
  pub long : length new ≡ length old
  pub here : is_in new c ≡ true
  pub keeps : (k : ℕ) → is_in old k ≡ true → is_in new k ≡ true
  pub sound : (k : ℕ) → is_in new k ≡ true → (is_in old k ≡ true) ⊎ Conforms g c k
  pub closed : (k : ℕ) → is_in new k ≡ true → (is_in old k ≡ true) ⊎ HasSupers g new k
  pub fewer : count_by not new ≤ count_by not old
