use Rattle.std.proofs.Common.{◌∷◌, ◌++◌, [], ap, ◌∙◌}
use Rattle.notice_chain.specs.declared.notice.Notice.{Notice}
use Rattle.models.specs.Model.{reading}
use Rattle.handshake.specs.Reports.{lost_notice}
use Rattle.handshake.proofs.FeatureChangeLemmas.{made-step}
use Rattle.handshake.proofs.chain.each_lost.Goals as goal

pub loop-loss-preserved : goal.loop-loss-preserved
loop-loss-preserved g c =
    let r = reading c.args.model.now in
    let steps = c.in-Some.ensures.steps.0 in (
      tt,
      tt,
      made-step (lost_notice r) _ _ c.in-Some.loss _ _ _ steps (c.in_ok-push.ensures ∙ ap (λ (n : Notice). c.loop-loss.chain ++ n ∷ []) c.lost_notice.ensures) c.loop-loss.invariant.2,
    )
