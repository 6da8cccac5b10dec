use Rattle.std.proofs.Common.{◌∙◌, ap}
use Rattle.node_slots.specs.Tables.{Table, row_index_at}
use Rattle.node_slots.proofs.TableLemmas.{written_edited}
use Rattle.node_slots.proofs.row_table.RowTable.edit_at.Goals as goal

pub returns-clause-edited : goal.returns-clause-edited
returns-clause-edited c =
    let at = ap (λ (x : Table). row_index_at x.places c.args.number) c.self.view_is ∙ c.requires.at in
    rw (← c.self.view_is) (written_edited c.self.inside.places.items c.self.inside.rows.items c.args.number c.args.row_index c.index_mut.result.now c.edit.new.self c.self.invariant at c.index_mut.ensures.value c.args.edit c.edit.ensures)
