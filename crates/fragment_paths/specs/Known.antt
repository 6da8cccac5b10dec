-- Known positions of objects.
use Rattle.std.specs.Prelude.{◌≡◌, ℕ, List, Some, nat_eq}
use Rattle.std.specs.Map.{lookup}
use Rattle.mm_types.specs.declared.numbers.ObjectNo.{ObjectNo}
use Rattle.models.specs.Reading.{Reading}
use Rattle.fragment_paths.specs.Fragments.{position_in}
use Rattle.fragment_paths.specs.declared.positions.EndPosition.{EndPosition}

-- each object that has an entry is at the position that the entry says
abbrev pub KnowsPositions : Reading → List (ℕ × EndPosition) → Type 0
KnowsPositions r known = (o : ObjectNo) (p : EndPosition) → lookup (nat_eq o.0) known ≡ Some p → position_in r p.end o ≡ p.index
