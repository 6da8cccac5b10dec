-- The pieces that were searched so far do not have the value.
use Rattle.slot_lists.proofs.PositionLemmas.{HasPassed}
use Rattle.slot_lists.proofs.pieces.Pieces.position.Given as goal

abbrev pub invariant-loop-piece : goal.invariant-loop-piece
invariant-loop-piece g l = HasPassed (g.T.PartialEq.eq l.value) l.self.items l.piece-items l.piece-index l.before
