use Rattle.std.proofs.Common.{◌≡◌, ◌++◌, drop}
use Rattle.node_slots.specs.Cells.{cells}
use Rattle.slot_store.specs.Entering.{far_ends}
use Rattle.slot_store.proofs.incoming.push_far_ends.Given as goal

abbrev pub invariant-loop-index : goal.invariant-loop-index
invariant-loop-index l = l.out.items ++ far_ends l.feature (drop l.index ((cells l.rows).vals l.end)) ≡ l.fn.out.items ++ far_ends l.feature ((cells l.rows).vals l.end)
