use Rattle.std.proofs.Common.{refl}
use Rattle.models.specs.Model.{reading}
use Rattle.handshake.specs.FeatureChange.{notice_at}
use Rattle.handshake.proofs.FeatureChangeLemmas.{lost-before, lost-end}
use Rattle.handshake.proofs.feature_change.push_all_lost.Goals as goal

pub loop-index-init : goal.loop-index-init
loop-index-init g c = refl

pub loop-index-preserved : goal.loop-index-preserved
loop-index-preserved g c = lost-before (notice_at (reading c.args.model.now)) c.args.end c.loop-index.index _ _ _ c.loop-index-test.true c.in_ok-push.ensures c.loop-index.invariant

pub returns : goal.returns
returns g c = lost-end (notice_at (reading c.args.model.now)) c.args.end c.loop-index.index _ _ c.loop-index-test.false c.loop-index.invariant
