use Rattle.std.proofs.Common.{◌≡◌, ◌++◌, drop}
use Rattle.links.specs.Found.{entries_by}
use Rattle.node_slots.specs.Cells.{cells}
use Rattle.slot_store.specs.Entering.{found_in}
use Rattle.slot_store.proofs.incoming.places_of.Given as goal

abbrev pub invariant-loop-end : goal.invariant-loop-end
invariant-loop-end l = l.out.items ++ entries_by (found_in (cells l.rows) l.value) (drop l.end-index l.ends) ≡ entries_by (found_in (cells l.rows) l.value) l.ends
