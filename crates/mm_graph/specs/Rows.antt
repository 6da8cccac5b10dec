-- Lists of features, and how the list of a class is made from the lists of its direct supertypes.
use Rattle.std.specs.Prelude.{ℕ, List, [], ◌∷◌, ◌++◌}
use Rattle.std.specs.List.{flat_map}
use Rattle.mm_types.specs.Graph.{by_class}
use Rattle.mm_types.specs.Features.{all_features, first_occurrences, with_new}

-- the features `seen`, and after them the features of the given classes, class by class; a feature that the list has already is left out.
-- `rows` has the list of features of each class
abbrev pub with_rows : List (List ℕ) → List ℕ → List ℕ → List ℕ
with_rows rows seen [] = seen
with_rows rows seen (e ∷ es) = with_rows rows (with_new seen (by_class rows e)) es

-- all features of the direct supertypes, one supertype after another in declared order, and then the own features; of each feature the
-- first occurrence is kept
abbrev pub from_supers : List (List ℕ) → List (List ℕ) → ℕ → List ℕ
from_supers g own c = first_occurrences (flat_map (all_features g own) (by_class g c) ++ by_class own c)
