use Rattle.std.proofs.Common.{◌≡◌}
use Rattle.node_slots.specs.Cells.{cells}
use Rattle.node_slots.proofs.node_slots.NodeSlots.forget_plan.Given as goal

abbrev pub invariant-loop-edit : goal.invariant-loop-edit
invariant-loop-edit l = cells l.self ≡ cells l.fn.self
