use Rattle.std.proofs.Common.{◌≡◌, ◌+◌, ◌≤◌, take}
use Rattle.end_values.specs.EndValues.{objects}
use Rattle.end_values.proofs.end_values.push_objects.Given as goal

abbrev pub invariant-loop-index : goal.invariant-loop-index
invariant-loop-index l = record {
  items : l.values.items ≡ objects (take l.index l.list.items);
  spare : l.fn.values.spare ≤ l.values.spare + l.index;
}
