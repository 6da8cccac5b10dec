use Rattle.std.proofs.Common.{◌≡◌, ◌++◌, drop}
use Rattle.node_slots.specs.Cells.{cells}
use Rattle.slot_store.specs.Entering.{paired_ends}
use Rattle.slot_store.proofs.incoming.push_paired.Given as goal

abbrev pub invariant-loop-slot : goal.invariant-loop-slot
invariant-loop-slot l = l.out.items ++ paired_ends (cells l.rows) l.object (drop l.slot-index l.slots) ≡ l.fn.out.items ++ paired_ends (cells l.rows) l.object l.slots
