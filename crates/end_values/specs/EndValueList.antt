-- What a contract sees of each layout that the values of an end can have in memory.
use Rattle.std.specs.Prelude.{true, false}
use Rattle.end_values.specs.declared.end_values.Layout.{Layout}
use Rattle.end_values.specs.declared.end_values.Layout.TheVariants.{Objects, Shuffled, Labelled, Mixed}
use Rattle.end_values.specs.EndValues.{EndValues, objects}

abbrev pub end_values_of : Layout → EndValues
end_values_of (Objects l) = record { items = objects l.items; spare = l.spare; mixed = false }
end_values_of (Shuffled l) = record { items = objects l.items; spare = l.spare; mixed = false }
end_values_of (Labelled b) = record { items = objects b.value.items; spare = b.value.spare; mixed = false }
end_values_of (Mixed b) = record { items = b.value.items; spare = b.value.spare; mixed = true }
