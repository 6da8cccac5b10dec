-- The entries (`Incoming`) that a search finds in ends.
use Rattle.std.specs.Prelude.{ℕ, ◌++◌, List, [], ◌∷◌, Option, Some, None}
use Rattle.mm_types.specs.declared.end.End.{End}
use Rattle.links.specs.declared.incoming.Incoming.{Incoming}

-- the entry of a position in the end e; no entry if no position is given
abbrev pub entry_if : End → Option ℕ → List Incoming
entry_if e None = []
entry_if e (Some k) = record { feature = e.feature; node = e.node; position = k } ∷ []

-- an entry for each of the ends in which the search `found` finds a position
abbrev pub entries_by : (End → Option ℕ) → List End → List Incoming
entries_by found [] = []
entries_by found (e ∷ es) = entry_if e (found e) ++ entries_by found es
