use Rattle.std.proofs.Common.{◌∙◌, sym}
use Rattle.node_slots.proofs.CellLemmas.{unedited_cells, unedited_room}
use Rattle.node_slots.proofs.node_slots.NodeSlots.edit.Goals as goal

pub returns-in-None-clause-cells : goal.returns-in-None-clause-cells
returns-in-None-clause-cells c = unedited_cells c.args.self.now c.args.node c.args.edit (sym c.find.ensures ∙ c.in-None.is) c.requires

pub returns-in-None-clause-room : goal.returns-in-None-clause-room
returns-in-None-clause-room c = unedited_room c.args.self.now c.args.node c.args.edit (sym c.find.ensures ∙ c.in-None.is) c.requires
