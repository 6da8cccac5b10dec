-- An order of the classes in which supertypes come first.
use Rattle.std.specs.Prelude.{ℕ, ◌≡◌, ◌<◌, ◌≤◌, List, length}
use Rattle.std.specs.List.{All, Contains, slice_index_or}
use Rattle.mm_types.specs.Graph.{Reaches, by_class}

-- every supertype is a class
abbrev pub InRange : List (List ℕ) → Type 0
InRange g = All (λ (es : List ℕ). All (λ (e : ℕ). e < length g) es) g

-- some class is reached from itself
abbrev pub HasCycle : List (List ℕ) → Type 0
HasCycle g = (c : ℕ) × Reaches g c c

-- the class e is in the order, at an index below j
abbrev pub IsBefore : List ℕ → ℕ → ℕ → Type 0
IsBefore order j e = (i : ℕ) × (i < j) × (slice_index_or order i 0 ≡ e)

-- each class is in the order once, after its direct supertypes
pub record IsOrder (g : List (List ℕ)) (order : List ℕ) : Type 0 where
  pub within : All (λ (c : ℕ). c < length g) order
  pub every : (c : ℕ) → c < length g → Contains order c
  pub behind : (j : ℕ) → j < length order → All (IsBefore order j) (by_class g (slice_index_or order j 0))
  pub long : length order ≤ length g
