use Rattle.std.proofs.Common.{sym, subst}
use Rattle.links.specs.LegalSets.{IsDistinct}
use Rattle.node_slots.specs.Cells.{Cells, cells}
use Rattle.slot_store.proofs.KeptEntryLemmas.{cut_far-distinct}
use Rattle.slot_store.proofs.edits.cut.Goals as goal

pub take_out-requires : goal.take_out-requires
take_out-requires c =
    subst (λ (d : Cells). IsDistinct (d.vals c.args.end)) (sym c.take_out_far.ensures.cells)
    (cut_far-distinct c.args.end c.args.object c.pairing-pairing.result.opposite (cells c.args.rows.now) c.requires.values c.args.end)
