-- The layout of the slots of a node in memory.
use Rattle.std.specs.Prelude.{List, [], ◌∷◌}
use Rattle.node_slots.specs.declared.row_slots.Layout.{Layout}
use Rattle.node_slots.specs.declared.row_slots.Layout.TheVariants.{Empty, One, Many}
use Rattle.node_slots.specs.declared.slot.Slot.{Slot}

-- the slots in their order, whatever their layout is
abbrev pub slots_of : Layout → List Slot
slots_of Empty = []
slots_of (One s) = s ∷ []
slots_of (Many ss) = ss.items
