use Rattle.std.proofs.Common.{◌≡◌, ◌<◌, ℕ, Some, slice_get}
use Rattle.models.specs.Model.{reading}
use Rattle.models.proofs.model_ref.ModelRef.target_position.Given as goal

abbrev pub invariant-positions : goal.invariant-positions
invariant-positions g l = (k : ℕ) → k < l.index → slice_get ((reading l.self).values l.end) k ≡ Some l.value → ⊥
