-- A table with a row for each class: the set of the classes to which that class conforms.
use Rattle.std.specs.Prelude.{ℕ, ◌≡◌, ◌<◌, Bool, List, [], length}
use Rattle.std.specs.List.{slice_index_or}
use Rattle.mm_types.specs.Graph.{Conforms}
use Rattle.mm_graph.specs.Sets.{IsSetOf}

pub record IsConformTable (g : List (List ℕ)) (table : List (List Bool)) : Type 0 where
  pub long : length table ≡ length g
  pub wide : (c : ℕ) → c < length g → length (slice_index_or table c []) ≡ length g
  pub rows : (c : ℕ) → c < length g → IsSetOf (Conforms g c) (slice_index_or table c [])
