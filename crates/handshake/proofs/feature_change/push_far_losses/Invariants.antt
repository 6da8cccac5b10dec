use Rattle.std.proofs.Common.{◌≡◌, ◌++◌, drop, map}
use Rattle.models.specs.Model.{reading}
use Rattle.handshake.specs.FeatureChange.{notice_at}
use Rattle.handshake.specs.FeatureChanges.{far_losses}
use Rattle.handshake.proofs.feature_change.push_far_losses.Given as goal

abbrev pub invariant-loop-link_end : goal.invariant-loop-link_end
invariant-loop-link_end g l =
    let told = map (notice_at (reading l.model)) in
    l.chain ++ told (far_losses (reading l.model) (drop l.link_end-index l.link_ends)) ≡ l.initial.chain ++ told (far_losses (reading l.model) l.link_ends)
