use Rattle.std.proofs.Common.{◌≡◌, map, take}
use Rattle.models.specs.Model.{reading}
use Rattle.snapshots.specs.Snapshots.{feature_state}
use Rattle.snapshots.proofs.taking.feature_states.Given as goal

abbrev pub invariant-features : goal.invariant-features
invariant-features g l = l.out ≡ map (feature_state (reading l.model) l.node) (take l.feature-index l.features)
