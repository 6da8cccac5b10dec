use Rattle.std.proofs.Common.{◌∙◌, Option, ap}
use Rattle.std.proofs.lemmas.Result.{on_ok_weaker}
use Rattle.node_slots.specs.declared.row.Row.{Row}
use Rattle.node_slots.specs.Rows.{row_mixed, row_indexes}
use Rattle.node_slots.specs.Tables.{Table, row_index_at}
use Rattle.node_slots.proofs.TableLemmas.{is_now, written_grown, written_more}
use Rattle.node_slots.proofs.row_table.RowTable.promise_at.Goals as goal

pub returns-clause-grown : goal.returns-clause-grown
returns-clause-grown c =
    let at = ap (λ (x : Table). row_index_at x.places c.args.number) c.self.view_is ∙ c.requires.at in
    rw (← c.self.view_is) (written_grown c.self.inside.places.items c.self.inside.rows.items c.args.number c.args.row_index c.index_mut.result.now c.promise.new.self c.self.invariant at c.index_mut.ensures.value c.promise.ensures.grown)

pub returns-clause-ok : goal.returns-clause-ok
returns-clause-ok c =
    let at = ap (λ (x : Table). row_index_at x.places c.args.number) c.self.view_is ∙ c.requires.at in
    rw (← c.self.view_is) (on_ok_weaker c.promise.result (written_more c.self.inside.places.items c.self.inside.rows.items c.args.number c.args.row_index c.index_mut.result.now c.promise.new.self c.self.invariant at c.index_mut.ensures.value (λ (o : Option Row). row_indexes o c.args.feature)) c.promise.ensures.ok)

pub returns-clause-takes : goal.returns-clause-takes
returns-clause-takes c =
    let at = ap (λ (x : Table). row_index_at x.places c.args.number) c.self.view_is ∙ c.requires.at in
    let now = is_now c.self.inside.places.items c.self.inside.rows.items c.args.number c.args.row_index c.index_mut.result.now c.promise.new.self c.self.invariant at c.index_mut.ensures.value in
    on_ok_weaker c.promise.result (λ h q. ap (λ (o : Option Row). row_mixed o c.args.feature) now ∙ h q) c.promise.ensures.takes
