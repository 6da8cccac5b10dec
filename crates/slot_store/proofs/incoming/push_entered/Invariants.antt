use Rattle.std.proofs.Common.{◌≡◌, ◌++◌, drop}
use Rattle.node_slots.specs.Cells.{cells}
use Rattle.slot_store.proofs.incoming.push_entered.Given as goal

abbrev pub invariant-loop-index : goal.invariant-loop-index
invariant-loop-index l = l.out.items ++ drop l.index ((cells l.rows).entered l.node) ≡ l.fn.out.items ++ (cells l.rows).entered l.node
