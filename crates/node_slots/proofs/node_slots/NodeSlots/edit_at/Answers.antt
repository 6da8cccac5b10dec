use Rattle.std.proofs.Common.{subst, refl}
use Rattle.mm_types.specs.declared.numbers.Node.{Node}
use Rattle.node_slots.specs.Cells.{row_at}
use Rattle.node_slots.specs.Rows.{RowFits}
use Rattle.node_slots.proofs.CellLemmas.{fits_at, object_cells, object_room, resource_cells, resource_room}
use Rattle.node_slots.proofs.node_slots.NodeSlots.edit_at.Goals as goal

pub edit_at-requires-clause-fits : goal.edit_at-requires-clause-fits
edit_at-requires-clause-fits c = subst (λ (n : Node). RowFits c.args.edit (row_at c.args.self.now n)) c.in-Object.is (fits_at c.args.self.now c.args.node c.args.edit c.requires.fits)

pub edit_at-requires-in-Resource-clause-fits : goal.edit_at-requires-in-Resource-clause-fits
edit_at-requires-in-Resource-clause-fits c = subst (λ (n : Node). RowFits c.args.edit (row_at c.args.self.now n)) c.in-Resource.is (fits_at c.args.self.now c.args.node c.args.edit c.requires.fits)

pub returns-in-Object-clause-cells : goal.returns-in-Object-clause-cells
returns-in-Object-clause-cells c = object_cells c.args.self.now (record c.args.self.now { objects = c.edit_at.new.self }) c.args.node c.args.edit c.in-Object.object.0 c.in-Object.is c.edit_at.ensures.edited refl

pub returns-in-Object-clause-room : goal.returns-in-Object-clause-room
returns-in-Object-clause-room c = object_room c.args.self.now (record c.args.self.now { objects = c.edit_at.new.self }) c.args.node c.args.edit c.in-Object.object.0 c.in-Object.is c.edit_at.ensures.edited refl

pub returns-in-Resource-clause-cells : goal.returns-in-Resource-clause-cells
returns-in-Resource-clause-cells c = resource_cells c.args.self.now (record c.args.self.now { resources = c.edit_at-in-Resource.new.self }) c.args.node c.args.edit c.in-Resource.resource.0 c.in-Resource.is c.edit_at-in-Resource.ensures.edited refl

pub returns-in-Resource-clause-room : goal.returns-in-Resource-clause-room
returns-in-Resource-clause-room c = resource_room c.args.self.now (record c.args.self.now { resources = c.edit_at-in-Resource.new.self }) c.args.node c.args.edit c.in-Resource.resource.0 c.in-Resource.is c.edit_at-in-Resource.ensures.edited refl
