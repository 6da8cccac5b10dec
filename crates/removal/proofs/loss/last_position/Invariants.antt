use Rattle.std.proofs.Common.{◌≡◌, ◌≤◌, ◌+◌, drop}
use Rattle.models.specs.Model.{reading}
use Rattle.removal.specs.Losses.{is_lost}
use Rattle.removal.proofs.LossLemmas.{place_left}
use Rattle.removal.proofs.loss.last_position.Given as goal

-- no more values stay than there were; they are before the values that are left to read
abbrev pub invariant-loop-index : goal.invariant-loop-index
invariant-loop-index g l =
    let r = reading l.model in
    let p = is_lost r l.removal.object l.end in
    record {
      few : l.kept ≤ l.index;
      whole : l.kept + place_left p l.removal.object (drop l.index (r.values l.end)) ≡ place_left p l.removal.object (r.values l.end);
    }
