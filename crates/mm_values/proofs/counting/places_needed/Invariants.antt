use Rattle.std.proofs.Common.{◌≡◌, take}
use Rattle.std.specs.List.{sum_by}
use Rattle.mm_values.specs.Room.{places_taken}
use Rattle.mm_values.proofs.counting.places_needed.Given as goal

abbrev pub invariant-loop-edit : goal.invariant-loop-edit
invariant-loop-edit l = l.places ≡ sum_by (λ e. places_taken e l.object.0 l.feature.0) (take l.edit-index l.plan)
