use Rattle.std.proofs.Common.{◌∙◌, arith}
use Rattle.node_slots.proofs.ListLemmas.{list_after_move-values_after_move, shifted_past}
use Rattle.node_slots.proofs.slot.move_in.Goals as goal

pub returns-then-from-len-clause-items : goal.returns-then-from-len-clause-items
returns-then-from-len-clause-items c = rw (c.min.ensures, c.len-len.ensures) at c.move_to.ensures.items ∙ list_after_move-values_after_move c.args.values.now.items c.args.to c.args.from (omega arith)

pub returns-else-from-len-clause-items : goal.returns-else-from-len-clause-items
returns-else-from-len-clause-items c = shifted_past c.args.values.now.items c.args.to c.args.from (omega arith)
