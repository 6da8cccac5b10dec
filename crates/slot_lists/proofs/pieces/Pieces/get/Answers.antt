use Rattle.std.proofs.Common.{arith, ◌∙◌, ◌<◌}
use Rattle.slot_lists.proofs.LayoutLemmas.{len-view, in_piece, read_at, long_at}
use Rattle.slot_lists.proofs.pieces.Pieces.get.Goals as goal

pub index-requires : goal.index-requires
index-requires g c =
    let len = len-view _ _ _ c.self.invariant c.self.view_is in
    let lt : c.args.index < c.self.inside.len = omega (arith, len) in
    let at = in_piece _ _ _ c.self.invariant.filled c.self.invariant.in_range lt in
    omega (arith, at.piece, c.self.inside.pieces.ok.0)

pub get-requires : goal.get-requires
get-requires g c =
    let len = len-view _ _ _ c.self.invariant c.self.view_is in
    let lt : c.args.index < c.self.inside.len = omega (arith, len) in
    long_at _ _ _ _ c.self.invariant lt c.index.ensures

pub returns : goal.returns
returns g c =
    let len = len-view _ _ _ c.self.invariant c.self.view_is in
    let lt : c.args.index < c.self.inside.len = omega (arith, len) in
    c.get.ensures ∙ read_at _ _ _ _ _ c.self.invariant c.self.view_is lt c.index.ensures
