use Rattle.std.proofs.Common.{◌≡◌}
use Rattle.std.specs.Vec.Iter.{into_iter_items}
use Rattle.links.specs.Plans.{HasPlanOfKind, PlanFits, links_after_edits}
use Rattle.node_slots.specs.Cells.{room}
use Rattle.node_slots.specs.Growth.{HasRoom}
use Rattle.slot_store.specs.CellLinks.{IsStore, IsStoreOfKind, store_links}
use Rattle.slot_store.proofs.slot_store.apply_edits.Given as goal

-- the edits that are left fit, have capacity, and lead to the same links as all edits
abbrev pub invariant-loop-edit : goal.invariant-loop-edit
invariant-loop-edit l = record {
  can : (goal.iterator-loop-edit).can_next l.edit-iterator;
  ends : (goal.iterator-loop-edit).is_finite l.edit-iterator;
  kept : ∥ IsStore l.rows ∥₁;
  fits : PlanFits (store_links l.rows) (into_iter_items l.edit-iterator);
  kind : HasPlanOfKind (IsStoreOfKind l.rows) (into_iter_items l.edit-iterator);
  room : HasRoom (room l.rows) (into_iter_items l.edit-iterator);
  rest : links_after_edits (store_links l.rows) (into_iter_items l.edit-iterator) ≡ links_after_edits (store_links l.fn.rows) l.fn.edits.items;
}
