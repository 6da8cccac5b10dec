-- Which classes have a containment, so that their objects can contain others.
use Rattle.std.specs.Prelude.{◌≡◌, ℕ, Bool, List, [], Some, slice_get, unwrap_or}
use Rattle.std.specs.List.{list_any}
use Rattle.mm_types.specs.Lookups.{features}
use Rattle.mm_types.specs.Resolved.{Metamodel, class_no}
use Rattle.mm_types.specs.Shapes.{is_containment}
use Rattle.mm_types.specs.declared.numbers.ClassNo.{ClassNo}

-- whether a class has a containment among all its features, own and inherited; false if no class has the number
abbrev pub has_containment : Metamodel → ClassNo → Bool
has_containment m c = list_any (is_containment m) (unwrap_or (features m c) [])

-- the list found says, at a class's number, whether the class has a containment; the list may end before the last class
abbrev pub AreContainments : Metamodel → List Bool → Type 0
AreContainments m found = (c : ℕ) (b : Bool) → slice_get found c ≡ Some b → b ≡ has_containment m (class_no c)
