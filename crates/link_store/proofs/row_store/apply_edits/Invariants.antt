use Rattle.std.proofs.Common.{◌≡◌, ◌+◌, ◌≤◌, length, vec_len, vec_capacity}
use Rattle.std.specs.Vec.Iter.{into_iter_items}
use Rattle.links.specs.LegalSets.{IsLegalSet}
use Rattle.links.specs.Plans.{PlanFits, links_after_edits}
use Rattle.link_store.proofs.RowLemmas.{of_rows}
use Rattle.link_store.proofs.row_store.apply_edits.Given as goal

-- the edits that are left fit, have capacity, and lead to the same links as all edits
abbrev pub invariant-loop-edit : goal.invariant-loop-edit
invariant-loop-edit l = record {
  can : (goal.iterator-loop-edit).can_next l.edit-iterator;
  ends : (goal.iterator-loop-edit).is_finite l.edit-iterator;
  legal : IsLegalSet (of_rows l.rows.items);
  fits : PlanFits (of_rows l.rows.items) (into_iter_items l.edit-iterator);
  room : vec_len l.rows + length (into_iter_items l.edit-iterator) ≤ vec_capacity l.rows;
  rest : links_after_edits (of_rows l.rows.items) (into_iter_items l.edit-iterator) ≡ links_after_edits (of_rows l.fn.rows.items) l.fn.edits.items;
}
