-- The layout of a long list in pieces: its values, its capacity for more values, and the conditions for the pieces.
use Rattle.std.specs.Prelude.{ℕ, ◌-◌, ◌*◌, ◌^◌, ◌≤◌, List, length}
use Rattle.slot_lists.specs.Pieces.{joined_values, IsFilled}
use Rattle.slot_lists.specs.Places.{Places}

abbrev pub places_in : {T : Type 0} → List (List T) → ℕ → Places T
places_in cs n = record { items = joined_values cs; spare = 1024 * length cs - n }

pub record IsLaidOut {T : Type 0} (cs : List (List T)) (n : ℕ) : Type 0 where
  pub filled : IsFilled n cs
  pub in_range : n ≤ 1024 * length cs
  pub countable : length cs ≤ 2 ^ 32
