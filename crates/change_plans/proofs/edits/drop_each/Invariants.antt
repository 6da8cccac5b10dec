use Rattle.std.proofs.Common.{◌≡◌, map, take}
use Rattle.mm_values.specs.declared.value_edit.ValueEdit.TheVariants.{DropObject}
use Rattle.change_plans.proofs.edits.drop_each.Given as goal

-- the edits of the objects so far
abbrev pub invariant-loop-object : goal.invariant-loop-object
invariant-loop-object l = l.edits.items ≡ map DropObject (take l.object-index l.objects)
