use Rattle.std.proofs.Common.{arith, ap, sym, ◌∙◌}
use Rattle.slot_lists.specs.Pieces.{joined_values}
use Rattle.slot_lists.proofs.LayoutLemmas.{len-view}
use Rattle.slot_lists.proofs.PositionLemmas.{passed-none, passed-more, passed-found, passed-within, passed-all, position-within}
use Rattle.slot_lists.proofs.pieces.Pieces.position.Goals as goal

pub loop-piece-init : goal.loop-piece-init
loop-piece-init g c = passed-none _ _ _ (ap joined_values c.deref-piece-items.ensures.value ∙ ap (λ w. w.items) c.self.view_is)

pub overflow_add-result : goal.overflow_add-result
overflow_add-result g c =
    let within = passed-within _ _ _ _ _ _ c.loop-piece.invariant c.loop-piece-test.true c.piece-item.is in
    let index = position-within (g.T.PartialEq.eq c.args.value.now) c.piece-item.result c.in-Some.index (sym c.position.ensures ∙ c.in-Some.is) in
    let len = len-view _ _ _ c.self.invariant c.self.view_is in
    omega (arith, within, index, len, c.self.invariant.in_range, c.self.invariant.countable)

pub returns-in-Some : goal.returns-in-Some
returns-in-Some g c =
    sym (passed-found _ _ _ _ _ _ _ c.loop-piece.invariant c.loop-piece-test.true c.piece-item.is (sym c.position.ensures ∙ c.in-Some.is))

pub overflow_add-before : goal.overflow_add-before
overflow_add-before g c =
    let within = passed-within _ _ _ _ _ _ c.loop-piece.invariant c.loop-piece-test.true c.piece-item.is in
    let len = len-view _ _ _ c.self.invariant c.self.view_is in
    omega (arith, within, len, c.self.invariant.in_range, c.self.invariant.countable, c.len-before.ensures)

pub loop-piece-preserved : goal.loop-piece-preserved
loop-piece-preserved g c =
    rw c.len-before.ensures (passed-more _ _ _ _ _ _ c.loop-piece.invariant c.loop-piece-test.true c.piece-item.is (sym c.position.ensures ∙ c.in_default.is))

pub returns : goal.returns
returns g c = sym (passed-all _ _ _ _ _ c.loop-piece.invariant c.loop-piece-test.false)
