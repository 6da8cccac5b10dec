-- Lists that mostly have one item.
use Rattle.std.specs.Prelude.{List, [], ◌∷◌}
use Rattle.mm_types.specs.declared.few.FewItems.{FewItems}
use Rattle.mm_types.specs.declared.few.FewItems.TheVariants as few

-- the items of a list, however it is kept
abbrev pub items_in : {T : Type 0} → FewItems T → List T
items_in (few.One x) = x ∷ []
items_in (few.Many xs) = xs.items
