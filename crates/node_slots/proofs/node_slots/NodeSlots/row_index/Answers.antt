use Rattle.std.proofs.Common.{◌∙◌, sym}
use Rattle.node_slots.proofs.CellLemmas.{known_place}
use Rattle.node_slots.proofs.node_slots.NodeSlots.row_index.Goals as goal

pub unreachable-requires : goal.unreachable-requires
unreachable-requires c = known_place c.args.self.now c.args.node (sym c.find.ensures ∙ c.in-None.is) c.requires
