use Rattle.std.proofs.Common.{◌≡◌, ◌++◌, map}
use Rattle.models.specs.Model.{reading}
use Rattle.handshake.specs.FeatureChange.{notice_at}
use Rattle.handshake.specs.FeatureChanges.{all_lost}
use Rattle.handshake.proofs.feature_change.push_all_lost.Given as goal

abbrev pub invariant-loop-index : goal.invariant-loop-index
invariant-loop-index g l =
    let told = map (notice_at (reading l.model)) in
    l.chain ++ told (all_lost l.end l.index) ≡ l.initial.chain ++ told (all_lost l.end l.len)
