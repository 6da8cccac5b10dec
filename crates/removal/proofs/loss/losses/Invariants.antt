use Rattle.std.proofs.Common.{◌≡◌, ◌++◌, drop, flat_map}
use Rattle.models.specs.Model.{reading}
use Rattle.removal.specs.Losses.{losses_at}
use Rattle.removal.proofs.loss.losses.Given as goal

-- what is added, and then what is left to add
abbrev pub invariant-loop-end : goal.invariant-loop-end
invariant-loop-end g l = let of_end = losses_at (reading l.model) l.removal.object in l.out.items ++ flat_map of_end (drop l.end-index l.end-items) ≡ flat_map of_end l.end-items
