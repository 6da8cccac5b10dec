use Rattle.std.proofs.Common.{◌<◌, ◌≤◌, ◌++◌, length, arith}
use Rattle.node_slots.specs.Cells.{cells}
use Rattle.slot_store.specs.Entering.{far_ends}
use Rattle.slot_store.proofs.EnteringLemmas.{last_far, next_far}
use Rattle.slot_store.proofs.incoming.push_far_ends.Goals as goal

pub loop-index-preserved : goal.loop-index-preserved
loop-index-preserved c =
    let f = c.args.feature in
    let vs = (cells c.args.rows.now).vals c.args.end in
    let lt : c.loop-index.index < length vs = omega (arith, c.loop-index-test.true, c.len-index-end.ensures) in
    next_far f vs c.loop-index.index c.object_at.result c.loop-index.out.items c.push_far.new.out.items (c.args.out.now.items ++ far_ends f vs) lt c.object_at.ensures c.in_ok-push_far.ensures c.loop-index.invariant

pub returns : goal.returns
returns c =
    let f = c.args.feature in
    let vs = (cells c.args.rows.now).vals c.args.end in
    let le : length vs ≤ c.loop-index.index = omega (arith, c.loop-index-test.false, c.len-index-end.ensures) in
    last_far f vs c.loop-index.index c.loop-index.out.items (c.args.out.now.items ++ far_ends f vs) le c.loop-index.invariant
