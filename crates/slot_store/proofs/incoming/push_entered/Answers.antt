use Rattle.std.proofs.Common.{◌<◌, ◌++◌, length, arith}
use Rattle.std.specs.Option.{option_copied}
use Rattle.node_slots.specs.Cells.{cells}
use Rattle.slot_store.proofs.EnteringLemmas.{next_end}
use Rattle.slot_store.proofs.incoming.push_entered.Goals as goal

pub loop-index-preserved : goal.loop-index-preserved
loop-index-preserved c =
    let ds = (cells c.args.rows.now).entered c.args.node in
    let lt : c.loop-index.index < length ds = omega (arith, c.loop-index-test.true, c.entered_len-index-end.ensures) in
    next_end ds c.loop-index.index (option_copied c.entered_at.result) c.loop-index.out.items c.push_end.new.out.items (c.args.out.now.items ++ ds) lt c.entered_at.ensures c.in_ok-push_end.ensures c.loop-index.invariant
