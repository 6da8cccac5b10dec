use Rattle.std.proofs.Common.{◌≡◌, rules, true}
use Rattle.mm_types.specs.declared.numbers.Node.TheVariants as node
use Rattle.models.specs.Model.{reading}
use Rattle.containment.proofs.ForestLemmas.{parts-step}
use Rattle.containment.proofs.below.add_contents.Goals as goal

pub loop-feature-preserved : goal.loop-feature-preserved
loop-feature-preserved g c =
    let added : c.add_parts.result ≡ true = search rules in
    parts-step (reading c.args.model.now) (node.Object c.args.object) c.all_features-features.result.now c.loop-feature.feature-index _ _ _ _ c.loop-feature-test.true (c.add_parts.ensures added) c.loop-feature.invariant
