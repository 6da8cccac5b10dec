-- Examples with a few nodes.
use Rattle.std.proofs.Common.{◌≡◌, ℕ, suc, List, [], ◌∷◌, drop, Some, None, refl}
use Rattle.std.specs.List.{position_or_len}
use Rattle.mm_types.specs.Same.{same_node}
use Rattle.mm_types.specs.declared.numbers.Node.{Node}
use Rattle.mm_types.specs.declared.numbers.Node.TheVariants.{Object, Resource}
use Rattle.containment.specs.Above.{resource_of, root_of}

abbrev object : ℕ → Node
object n = Object (record { 0 = n })

-- the nodes after a node in a row
abbrev behind : List Node → Node → List Node
behind row n = drop (suc (position_or_len (same_node n) row)) row

-- object 2 is in object 1, that in object 0, and that in resource 7
abbrev placed : Node → List Node
placed = behind (object 2 ∷ object 1 ∷ object 0 ∷ Resource (record { 0 = 7 }) ∷ [])

-- the same without a resource
abbrev loose : Node → List Node
loose = behind (object 2 ∷ object 1 ∷ object 0 ∷ [])

root-placed : root_of placed (object 2) ≡ Resource (record { 0 = 7 })
root-placed = refl

root-loose : root_of loose (object 2) ≡ object 0
root-loose = refl

root-alone : root_of loose (object 0) ≡ object 0
root-alone = refl

resource-placed : resource_of placed (record { 0 = 2 }) ≡ Some (record { 0 = 7 })
resource-placed = refl

resource-loose : resource_of loose (record { 0 = 2 }) ≡ None
resource-loose = refl
