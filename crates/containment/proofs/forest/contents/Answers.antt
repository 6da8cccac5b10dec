use Rattle.std.proofs.Common.{◌∙◌, sym}
use Rattle.models.specs.Model.{reading}
use Rattle.models.specs.Reading.{all_features_of}
use Rattle.containment.proofs.ForestLemmas.{no-parts, parts-step}
use Rattle.containment.proofs.forest.contents.Goals as goal

pub returns-then-not-may_contain : goal.returns-then-not-may_contain
returns-then-not-may_contain g c =
    c.new-out.ensures.items ∙ sym (no-parts (reading c.args.model.now) c.args.node (all_features_of (reading c.args.model.now) c.args.node) (c.may_contain.ensures c.if-not-may_contain.true))

pub loop-feature-preserved : goal.loop-feature-preserved
loop-feature-preserved g c =
    parts-step (reading c.args.model.now) c.args.node c.all_features-features.result.now c.loop-feature.feature-index _ _ _ _ c.loop-feature-test.true c.in_ok-push_parts.ensures c.loop-feature.invariant
