use Rattle.std.proofs.Common.{sym}
use Rattle.slot_lists.proofs.LayoutLemmas.{len-view}
use Rattle.slot_lists.proofs.pieces.Pieces.len.Goals as goal

pub returns : goal.returns
returns g c = sym (len-view _ _ _ c.self.invariant c.self.view_is)
