-- The names that some classes declare.
use Rattle.std.specs.Prelude.{ℕ, ◌++◌, Bool, true, false, List, [], ◌∷◌}

-- the names that the classes of a set declare, one class after another; the set is a truth value for each class
abbrev pub gathered_names : List Bool → List (List (List ℕ)) → List (List ℕ)
gathered_names [] nss = []
gathered_names (b ∷ bs) [] = []
gathered_names (true ∷ bs) (ns ∷ nss) = ns ++ gathered_names bs nss
gathered_names (false ∷ bs) (ns ∷ nss) = gathered_names bs nss
