use Rattle.std.proofs.Common.{◌∙◌, arith}
use Rattle.node_slots.specs.Cells.{cells}
use Rattle.node_slots.proofs.CellLemmas.{forget_cells}
use Rattle.node_slots.proofs.node_slots.NodeSlots.forget.Goals as goal

pub edit-requires : goal.edit-requires
edit-requires c = (omega (arith, c.places-places.ensures), tt)

pub returns : goal.returns
returns c = c.edit.ensures.cells ∙ forget_cells c.args.end.node c.args.end.feature c.places-places.result (cells c.args.self.now)
