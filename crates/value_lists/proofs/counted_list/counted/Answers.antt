use Rattle.std.proofs.Common.{◌<◌, ap, arith, length, ◌∙◌}
use Rattle.std.specs.List.{count_by}
use Rattle.std.proofs.lemmas.List.{take_all}
use Rattle.value_lists.specs.Hashes.{has_hash}
use Rattle.value_lists.proofs.HashLemmas.{counts_more}
use Rattle.value_lists.proofs.counted_list.counted.Goals as goal

pub loop-index-preserved : goal.loop-index-preserved
loop-index-preserved c =
    let vs = c.args.list.now.items in
    let within : c.loop-index.index < length vs = omega (arith, c.loop-index-test.true, c.len-len.ensures) in
    (counts_more c.loop-index.hashes c.add.new.self vs c.loop-index.index c.hash_at.result within c.hash_at.ensures c.loop-index.invariant.0 c.add.ensures.counts, omega (arith, c.add.ensures.spare, c.loop-index.invariant.1))

pub returns-clause-counts : goal.returns-clause-counts
returns-clause-counts c h = c.loop-index.invariant.0 h ∙ ap (count_by (has_hash h)) (take_all c.loop-index.index c.args.list.now.items (omega (arith, c.loop-index-test.false, c.len-len.ensures)))
