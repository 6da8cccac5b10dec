use Rattle.std.proofs.Common.{◌≡◌, take}
use Rattle.node_slots.specs.Cells.{cells, room}
use Rattle.node_slots.specs.Growth.{HasRoom}
use Rattle.node_slots.proofs.node_slots.NodeSlots.reserve_for.Given as goal

abbrev pub invariant-loop-edit : goal.invariant-loop-edit
invariant-loop-edit l = record {
  cells : cells l.self ≡ cells l.fn.self;
  room : HasRoom (room l.self) (take l.edit-index l.edits);
}
