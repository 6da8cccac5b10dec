use Rattle.std.proofs.Common.{ap, ◌∙◌, length, arith}
use Rattle.links.specs.Indexed.{renumbered_link}
use Rattle.link_store.specs.Rows.{changed_index}
use Rattle.links.proofs.ListLemmas.{map_more_at}
use Rattle.link_store.proofs.row_edits.renumber.Goals as goal

pub loop-link-preserved : goal.loop-link-preserved
loop-link-preserved c =
    let rows = c.args.rows.now.items in
    let same = ap length c.deref_mut-link-items.ensures.value in
    map_more_at (λ x. renumbered_link x c.args.end (changed_index c.args.by)) rows c.loop-link.link-items c.loop-link.link-index _ _ (omega (arith, same, c.loop-link-test.true)) (c.loop-link.auto.link-items ∙ same) c.loop-link.invariant c.move_row.ensures
