use Rattle.std.proofs.Common.{◌≡◌, ◌≤◌, ◌++◌, drop}
use Rattle.models.specs.Model.{reading}
use Rattle.removal.specs.Losses.{is_lost, losses_at, losses_from}
use Rattle.removal.proofs.loss.push_lost.Given as goal

-- no more values stay than there were; the losses that were added, and then the losses that are left to add
abbrev pub invariant-loop-index : goal.invariant-loop-index
invariant-loop-index g l =
    let r = reading l.model in
    record {
      few : l.kept ≤ l.index;
      whole : l.out.items ++ losses_from (is_lost r l.removal.object l.end) l.end (drop l.index (r.values l.end)) l.kept ≡ l.fn.out.items ++ losses_at r l.removal.object l.end;
    }
