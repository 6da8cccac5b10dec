use Rattle.std.proofs.Common.{◌≡◌, Some}
use Rattle.node_slots.specs.Tables.{row_index_at, row_in}
use Rattle.node_slots.proofs.RowLemmas.{row_unmoved}
use Rattle.node_slots.proofs.TableLemmas.{written_reordered}
use Rattle.node_slots.proofs.row_table.RowTable.order_entries.Goals as goal

pub returns-in-Some : goal.returns-in-Some
returns-in-Some c =
    let ps = c.self.inside.places.items in
    let at : row_index_at ps c.args.number ≡ Some c.in-Some.row_index = cc in
    rw (← c.self.view_is) (written_reordered ps c.self.inside.rows.items c.args.number c.in-Some.row_index c.index_mut.result.now c.order_entries.new.self c.self.invariant at c.index_mut.ensures.value c.order_entries.ensures)

pub returns-in_default : goal.returns-in_default
returns-in_default c = λ j. row_unmoved (row_in c.args.self.now j)
