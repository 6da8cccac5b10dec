-- The objects at which a search still has to look, as a list of their numbers.
use Rattle.std.specs.Prelude.{ℕ, List, map}
use Rattle.mm_types.specs.declared.numbers.ObjectNo.{ObjectNo}

abbrev pub object_no : ℕ → ObjectNo
object_no n = record { 0 = n }

-- the objects with the numbers ns, in the same order
abbrev pub waiting_objects : List ℕ → List ObjectNo
waiting_objects ns = map object_no ns
