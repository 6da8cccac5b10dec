-- Tables that find the position of a name in a list of names.
use Rattle.std.specs.Prelude.{ℕ, ◌≡◌, List, Option, option_and_then, position, slice_get}
use Rattle.std.specs.List.{AllZip}
use Rattle.std.specs.Str.{bytes_eq}
use Rattle.indexmap.specs.IndexMap.{get_by_text}
use Rattle.mm_meta.specs.declared.name_table.NameTable.{NameTable}

-- the table has the names of the list and no others, each with its first position in the list
pub record IsTableOf (t : NameTable) (names : List (List ℕ)) : Type 0 where
  pub at : (q : List ℕ) → get_by_text t.positions q ≡ position (λ n. bytes_eq n q) names

-- the first position of the name in the list at `index`; none if there is no list at `index`, or if the list does not have the name
abbrev pub position_in : List (List (List ℕ)) → ℕ → List ℕ → Option ℕ
position_in lists index name = option_and_then (position (λ n. bytes_eq n name)) (slice_get lists index)

-- the tables are those of some lists of names: one for each list, in the same order
abbrev pub AreTablesOf : List NameTable → List (List (List ℕ)) → Type 0
AreTablesOf = AllZip IsTableOf
