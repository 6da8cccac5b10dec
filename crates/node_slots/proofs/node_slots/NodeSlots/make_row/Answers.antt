use Rattle.std.proofs.Common.{refl}
use Rattle.node_slots.specs.declared.node_slots.NodeSlots.{NodeSlots}
use Rattle.node_slots.proofs.CellLemmas.{cells_grown, grown_room, objects_each, resources_each}
use Rattle.node_slots.proofs.node_slots.NodeSlots.make_row.Goals as goal

pub returns-in-Object-clause-cells : goal.returns-in-Object-clause-cells
returns-in-Object-clause-cells c =
    let u : NodeSlots = record c.args.self.now { objects = c.make_row.new.self } in
    cells_grown c.args.self.now u (objects_each c.args.self.now u c.make_row.ensures.grown refl)

pub returns-in-Object-clause-room : goal.returns-in-Object-clause-room
returns-in-Object-clause-room c =
    let u : NodeSlots = record c.args.self.now { objects = c.make_row.new.self } in
    grown_room c.args.self.now u (objects_each c.args.self.now u c.make_row.ensures.grown refl)

pub returns-in-Resource-clause-cells : goal.returns-in-Resource-clause-cells
returns-in-Resource-clause-cells c =
    let u : NodeSlots = record c.args.self.now { resources = c.make_row-in-Resource.new.self } in
    cells_grown c.args.self.now u (resources_each c.args.self.now u c.make_row-in-Resource.ensures.grown refl)

pub returns-in-Resource-clause-room : goal.returns-in-Resource-clause-room
returns-in-Resource-clause-room c =
    let u : NodeSlots = record c.args.self.now { resources = c.make_row-in-Resource.new.self } in
    grown_room c.args.self.now u (resources_each c.args.self.now u c.make_row-in-Resource.ensures.grown refl)
