use Rattle.std.proofs.Common.{◌<◌, ◌≤◌, length, ◌∙◌, ap, arith}
use Rattle.std.proofs.lemmas.List.{take_all}
use Rattle.std.specs.Option.{option_copied}
use Rattle.end_values.specs.EndValues.{objects}
use Rattle.end_values.proofs.EndValueLemmas.{pushed_object}
use Rattle.end_values.proofs.end_values.push_objects.Goals as goal

pub loop-index-preserved : goal.loop-index-preserved
loop-index-preserved c =
    let xs = c.args.list.now.items in
    let lt : c.loop-index.index < length xs = omega (arith, c.loop-index-test.true, c.len-index-end.ensures) in
    record {
      items = pushed_object xs c.loop-index.index (option_copied c.get.result) c.loop-index.values.items c.push_object.new.values.items lt c.get.ensures c.loop-index.invariant.items c.push_object.ensures.items;
      spare = omega (arith, c.loop-index.invariant.spare, c.push_object.ensures.spare);
    }

pub returns-clause-items : goal.returns-clause-items
returns-clause-items c =
    let xs = c.args.list.now.items in
    let le : length xs ≤ c.loop-index.index = omega (arith, c.loop-index-test.false, c.len-index-end.ensures) in
    c.loop-index.invariant.items ∙ ap objects (take_all c.loop-index.index xs le)
