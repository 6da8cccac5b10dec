use Rattle.std.proofs.Common.{refl}
use Rattle.node_slots.proofs.RowLemmas.{row_reordered}
use Rattle.node_slots.proofs.row.Row.order_entries.Goals as goal

pub returns : goal.returns
returns c = row_reordered c.args.self.now (record c.args.self.now { entered = c.put_in_order.new.ends }) refl refl refl c.put_in_order.ensures.items c.put_in_order.ensures.spare
