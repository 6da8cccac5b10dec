use Rattle.node_slots.proofs.KeyLemmas.{none_cells, none_ends}
use Rattle.node_slots.proofs.node_slots.NodeSlots.new.Goals as goal

pub returns-clause-cells : goal.returns-clause-cells
returns-clause-cells c = none_cells (record { objects = c.new.result; resources = c.new-2.result }) c.new.ensures c.new-2.ensures

pub returns-clause-ends : goal.returns-clause-ends
returns-clause-ends c = none_ends (record { objects = c.new.result; resources = c.new-2.result }) c.new.ensures c.new-2.ensures
