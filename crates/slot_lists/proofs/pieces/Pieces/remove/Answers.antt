use Rattle.std.proofs.Common.{arith, ap, ◌∙◌, ◌<◌}
use Rattle.std.specs.List.{remove}
use Rattle.slot_lists.proofs.LayoutLemmas.{len-view, in_piece, long_at, read_at, taken_as}
use Rattle.slot_lists.proofs.pieces.Pieces.remove.Goals as goal

pub index_mut-requires : goal.index_mut-requires
index_mut-requires g c =
    let len = len-view _ _ _ c.self.invariant c.self.view_is in
    let lt : c.args.index < c.self.inside.len = omega (arith, len) in
    let at = in_piece _ _ _ c.self.invariant.filled c.self.invariant.in_range lt in
    omega (arith, at.piece, c.self.inside.pieces.ok.0)

pub remove-value-requires : goal.remove-value-requires
remove-value-requires g c =
    let len = len-view _ _ _ c.self.invariant c.self.view_is in
    let lt : c.args.index < c.self.inside.len = omega (arith, len) in
    long_at _ _ _ _ c.self.invariant lt c.index_mut.ensures.value

pub overflow_sub-self-inside : goal.overflow_sub-self-inside
overflow_sub-self-inside g c = omega (arith, len-view _ _ _ c.self.invariant c.self.view_is)

pub move_hole-requires-clause-from : goal.move_hole-requires-clause-from
move_hole-requires-clause-from g c =
    let len = len-view _ _ _ c.self.invariant c.self.view_is in
    let lt : c.args.index < c.self.inside.len = omega (arith, len) in
    let gone = taken_as _ _ _ _ _ c.self.invariant lt c.index_mut.ensures.value c.remove-value.ensures.items in
    gone.hole

pub move_hole-requires-clause-to : goal.move_hole-requires-clause-to
move_hole-requires-clause-to g c = omega (arith, len-view _ _ _ c.self.invariant c.self.view_is)

pub returns-clause-items : goal.returns-clause-items
returns-clause-items g c =
    let len = len-view _ _ _ c.self.invariant c.self.view_is in
    let lt : c.args.index < c.self.inside.len = omega (arith, len) in
    let gone = taken_as _ _ _ _ _ c.self.invariant lt c.index_mut.ensures.value c.remove-value.ensures.items in
    c.move_hole.ensures.values ∙ gone.values ∙ ap (λ w. remove w.items c.args.index) c.self.view_is

pub returns-clause-value : goal.returns-clause-value
returns-clause-value g c =
    let len = len-view _ _ _ c.self.invariant c.self.view_is in
    let lt : c.args.index < c.self.inside.len = omega (arith, len) in
    c.remove-value.ensures.value ∙ read_at _ _ _ _ _ c.self.invariant c.self.view_is lt c.index_mut.ensures.value
