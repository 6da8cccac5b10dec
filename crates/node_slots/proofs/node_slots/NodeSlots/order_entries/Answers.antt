use Rattle.std.proofs.Common.{refl}
use Rattle.node_slots.specs.declared.node_slots.NodeSlots.{NodeSlots}
use Rattle.node_slots.proofs.CellLemmas.{cells_reordered, objects_reordered, resources_reordered, room_reordered}
use Rattle.node_slots.proofs.node_slots.NodeSlots.order_entries.Goals as goal

pub returns-in-Object-clause-cells : goal.returns-in-Object-clause-cells
returns-in-Object-clause-cells c =
    let u : NodeSlots = record c.args.self.now { objects = c.order_entries.new.self } in
    cells_reordered c.args.self.now u (objects_reordered c.args.self.now u c.order_entries.ensures refl)

pub returns-in-Object-clause-room : goal.returns-in-Object-clause-room
returns-in-Object-clause-room c =
    let u : NodeSlots = record c.args.self.now { objects = c.order_entries.new.self } in
    room_reordered c.args.self.now u (objects_reordered c.args.self.now u c.order_entries.ensures refl)

pub returns-in-Resource-clause-cells : goal.returns-in-Resource-clause-cells
returns-in-Resource-clause-cells c =
    let u : NodeSlots = record c.args.self.now { resources = c.order_entries-in-Resource.new.self } in
    cells_reordered c.args.self.now u (resources_reordered c.args.self.now u c.order_entries-in-Resource.ensures refl)

pub returns-in-Resource-clause-room : goal.returns-in-Resource-clause-room
returns-in-Resource-clause-room c =
    let u : NodeSlots = record c.args.self.now { resources = c.order_entries-in-Resource.new.self } in
    room_reordered c.args.self.now u (resources_reordered c.args.self.now u c.order_entries-in-Resource.ensures refl)
