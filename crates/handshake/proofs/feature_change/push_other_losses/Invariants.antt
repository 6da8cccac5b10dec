use Rattle.std.proofs.Common.{◌≡◌, ◌++◌, drop, flat_map, map}
use Rattle.models.specs.Model.{reading}
use Rattle.handshake.specs.FeatureChange.{notice_at}
use Rattle.handshake.specs.FeatureChanges.{other_losses}
use Rattle.handshake.proofs.feature_change.push_other_losses.Given as goal

abbrev pub invariant-loop-link_end : goal.invariant-loop-link_end
invariant-loop-link_end g l =
    let lost = other_losses (reading l.model) l.link.end l.link.object in
    let told = map (notice_at (reading l.model)) in
    l.chain ++ told (flat_map lost (drop l.link_end-index l.link_ends)) ≡ l.initial.chain ++ told (flat_map lost l.link_ends)
