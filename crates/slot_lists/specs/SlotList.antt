-- The layout of a `SlotList`, as contracts see it.
use Rattle.std.specs.Prelude.{◌-◌, min, vec_len, vec_capacity}
use Rattle.slot_lists.specs.declared.slot_list.Layout.{Layout}
use Rattle.slot_lists.specs.declared.slot_list.Layout.TheVariants.{Short, Long}
use Rattle.slot_lists.specs.Places.{Places}

-- the values of a list, and how many more can be added without taking memory. If a list is in one block, only the block's capacity for the
-- first 1024 values counts
abbrev pub places_of : {T : Type 0} → Layout T → Places T
places_of (Short v) = record { items = v.items; spare = min (vec_capacity v) 1024 - vec_len v }
places_of (Long p) = p.value
