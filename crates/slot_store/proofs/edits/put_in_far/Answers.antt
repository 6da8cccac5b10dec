use Rattle.std.proofs.Common.{Option, subst}
use Rattle.mm_types.specs.declared.numbers.FeatureNo.{FeatureNo}
use Rattle.node_slots.specs.Cells.{room}
use Rattle.links.specs.Links.{far_end}
use Rattle.slot_store.specs.EditedCells.{FarHasRoom, PairsObject}
use Rattle.slot_store.proofs.RoomLemmas.{can_have_node}
use Rattle.slot_store.proofs.edits.put_in_far.Goals as goal

pub edit_at-requires-clause-fits : goal.edit_at-requires-clause-fits
edit_at-requires-clause-fits c =
    let e = c.args.link.end in
    let o = c.args.link.object in
    let r = room c.args.rows.now in (
      subst (λ (g : Option FeatureNo). FarHasRoom o g r) c.in-Some.is c.requires.room,
      can_have_node (r.mixed (far_end o c.in-Some.feature)) e.node _ (subst (PairsObject e) c.in-Some.is c.requires.object) c.value_of-value.ensures,
    )
