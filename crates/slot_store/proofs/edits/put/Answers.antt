use Rattle.std.proofs.Common.{◌≡◌, ◌∙◌, ℕ, IfSome, Option, Some, subst, sym}
use Rattle.mm_types.specs.declared.numbers.Node.{Node}
use Rattle.mm_types.specs.declared.numbers.Node.TheVariants as node
use Rattle.mm_types.specs.declared.end.End.{End}
use Rattle.node_slots.specs.Cells.{row_index_of}
use Rattle.slot_store.specs.EditedCells.{held_row_index}
use Rattle.slot_store.proofs.RoomLemmas.{held_at}
use Rattle.slot_store.proofs.edits.put.Goals as goal

pub put_in_far-requires-clause-at : goal.put_in_far-requires-clause-at
put_in_far-requires-clause-at c = c.put_in.ensures.places (node.Object c.args.link.object) ∙ c.requires.far

pub hold-requires-clause-at : goal.hold-requires-clause-at
hold-requires-clause-at c =
    let u = c.put_in_far.new.rows in
    let same = λ (n : Node). c.put_in_far.ensures.places n ∙ c.put_in.ensures.places n in
    let e = c.args.link.end in
    let h = c.args.link.container in
    let at = held_at u c.args.places e c.args.link.object c.args.link.opposite h (same e.node ∙ c.requires.near) (same (node.Object c.args.link.object) ∙ c.requires.far) in
    subst (λ (k : ℕ). IfSome c.held_by.result (λ q. row_index_of u q.0 ≡ Some k)) (sym c.held_row_index.ensures)
    (subst (λ (p : Option (Node × End)). IfSome p (λ q. row_index_of u q.0 ≡ Some (held_row_index c.args.places e h))) (sym c.held_by.ensures) at)
