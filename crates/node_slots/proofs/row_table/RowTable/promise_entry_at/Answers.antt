use Rattle.std.proofs.Common.{◌∙◌, ap}
use Rattle.std.proofs.lemmas.Result.{on_ok_weaker}
use Rattle.node_slots.specs.Rows.{row_entries}
use Rattle.node_slots.specs.Tables.{Table, row_index_at}
use Rattle.node_slots.proofs.TableLemmas.{written_grown, written_more}
use Rattle.node_slots.proofs.row_table.RowTable.promise_entry_at.Goals as goal

pub returns-clause-grown : goal.returns-clause-grown
returns-clause-grown c =
    let at = ap (λ (x : Table). row_index_at x.places c.args.number) c.self.view_is ∙ c.requires.at in
    rw (← c.self.view_is) (written_grown c.self.inside.places.items c.self.inside.rows.items c.args.number c.args.row_index c.index_mut.result.now c.promise_entry.new.self c.self.invariant at c.index_mut.ensures.value c.promise_entry.ensures.grown)

pub returns-clause-ok : goal.returns-clause-ok
returns-clause-ok c =
    let at = ap (λ (x : Table). row_index_at x.places c.args.number) c.self.view_is ∙ c.requires.at in
    rw (← c.self.view_is) (on_ok_weaker c.promise_entry.result (written_more c.self.inside.places.items c.self.inside.rows.items c.args.number c.args.row_index c.index_mut.result.now c.promise_entry.new.self c.self.invariant at c.index_mut.ensures.value row_entries) c.promise_entry.ensures.ok)
