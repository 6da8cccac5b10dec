use Rattle.std.proofs.Common.{◌≡◌, ◌++◌, map}
use Rattle.std.specs.Vec.Iter.{into_iter_items}
use Rattle.models.specs.Model.{reading}
use Rattle.handshake.specs.Reports.{lost_notice}
use Rattle.handshake.proofs.chain.each_lost.Given as goal

abbrev pub invariant-loop-loss : goal.invariant-loop-loss
invariant-loop-loss g l =
    (goal.iterator-loop-loss g).can_next l.loss-iterator ×
    (goal.iterator-loop-loss g).is_finite l.loss-iterator ×
    (l.chain ++ map (lost_notice (reading l.model)) (into_iter_items l.loss-iterator) ≡ l.fn.chain ++ map (lost_notice (reading l.model)) l.fn.losses.items)
