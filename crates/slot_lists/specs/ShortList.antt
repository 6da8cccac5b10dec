-- The layout of a `ShortList`, as contracts see it.
use Rattle.std.specs.Prelude.{[], ◌∷◌}
use Rattle.slot_lists.specs.declared.short_list.Layout.{Layout}
use Rattle.slot_lists.specs.declared.short_list.Layout.TheVariants.{Empty, One, Many}
use Rattle.slot_lists.specs.Places.{Places}

-- the values of a list, and how many more can be added without taking memory; `Empty` can take one value, which needs no block
abbrev pub short_places : {T : Type 0} → Layout T → Places T
short_places Empty = record { items = []; spare = 1 }
short_places (One v) = record { items = v ∷ []; spare = 0 }
short_places (Many b) = b.value
