use Rattle.std.proofs.Common.{◌∙◌}
use Rattle.node_slots.proofs.TableLemmas.{row_index_at-zero}
use Rattle.node_slots.proofs.row_table.extend.Goals as goal

pub loop-places-preserved : goal.loop-places-preserved
loop-places-preserved c = λ n. rw c.in_ok-push.ensures.items (row_index_at-zero c.loop-places.places.items n ∙ c.loop-places.invariant n)
