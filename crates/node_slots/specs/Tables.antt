-- A table of rows of nodes. The index of a node's row is found by the node's number.
use Rattle.std.specs.Prelude.{◌≡◌, ℕ, zero, suc, ◌<◌, List, slice_get, Option, Some, None}
use Rattle.node_slots.specs.declared.row.Row.{Row}

-- the rows of nodes, by number. At each number `places` has 0 if the node with this number has no row, else one more than the index of the
-- node's row in `rows`
pub record Table : Type 0 where
  pub places : List ℕ
  pub rows : List Row

abbrev pub place_at : Option ℕ → Option ℕ
place_at None = None
place_at (Some zero) = None
place_at (Some (suc k)) = Some k

-- the index of the row of the node with the number n; none if the node has no row
abbrev pub row_index_at : List ℕ → ℕ → Option ℕ
row_index_at ps n = place_at (slice_get ps n)

abbrev pub row_from : List Row → Option ℕ → Option Row
row_from rs None = None
row_from rs (Some k) = slice_get rs k

-- the row of the node with the number n; none if the node has no row
abbrev pub row_in : Table → ℕ → Option Row
row_in t n = row_from t.rows (row_index_at t.places n)

-- each index of a row is below `count`, the number of rows, and no two nodes have the same index
pub record ArePlaces (ps : List ℕ) (count : ℕ) : Type 0 where
  pub within : (n k : ℕ) → row_index_at ps n ≡ Some k → k < count
  pub apart : (m n k : ℕ) → row_index_at ps m ≡ Some k → row_index_at ps n ≡ Some k → m ≡ n
