use Rattle.std.proofs.Common.{◌≤◌, arith, ◌∙◌}
use Rattle.doc_writer.proofs.LevelLemmas.{level-end, level-low, level-on}
use Rattle.doc_writer.proofs.levels.is_too_deep.Goals as goal

pub returns-in-None : goal.returns-in-None
returns-in-None g c = level-low c.args.model.now c.lemma_is_legal.ensures c.up.at c.up.step _ c.in-None.ensures c.up-test.true c.up.invariant

pub up-preserved : goal.up-preserved
up-preserved g c = level-on c.args.model.now c.lemma_is_legal.ensures c.up.at c.in-Some.end c.up.step _ c.in-Some.ensures c.up.invariant

pub returns : goal.returns
returns g c =
    let low : c.up.step ≤ 40 = omega arith in
    c.is_some.ensures ∙ rw c.holder-2.ensures (level-end c.args.model.now c.lemma_is_legal.ensures c.up.at c.up.step _ c.up-test.false low c.up.invariant)
