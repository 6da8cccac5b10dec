-- How a list of values lies in memory.
use Rattle.std.specs.Prelude.{[], ◌∷◌}
use Rattle.value_lists.specs.declared.value_list.Layout.{Layout}
use Rattle.value_lists.specs.declared.value_list.Layout.TheVariants.{Empty, One, Plain, Counted}
use Rattle.value_lists.specs.Hashes.{ValuePlaces}

-- the values and the capacity of a list in each layout; the layout `Empty` has capacity for one value, which needs no block of memory
abbrev pub places_of : Layout → ValuePlaces
places_of Empty = record { items = []; spare = 1 }
places_of (One v) = record { items = v ∷ []; spare = 0 }
places_of (Plain list) = list
places_of (Counted counted) = counted.value
