use Rattle.std.proofs.Common.{arith, sym, ◌∙◌, ap, ◌++◌, ◌∷◌, []}
use Rattle.slot_lists.proofs.HoleLemmas.{hole-raised, hole-lowered_from}
use Rattle.slot_lists.proofs.hole.move_hole.Goals as goal

pub loop-hole-preserved : goal.loop-hole-preserved
loop-hole-preserved g c =
    let y = c.pop_first-value.result in
    hole-raised _ _ _ _ _ _ _ _ _ (omega (arith, c.loop-hole.invariant.count)) c.loop-hole.invariant (sym c.index_mut.ensures.value ∙ c.pop_first-value.ensures) (c.push_last.ensures ∙ ap (λ p. p ++ y ∷ []) c.index_mut-in-loop-hole.ensures.value)

pub loop-hole-2-preserved : goal.loop-hole-2-preserved
loop-hole-2-preserved g c =
    let y = c.pop_last-value.result in
    (hole-lowered_from _ _ _ _ _ _ _ _ _ _ (omega arith) (omega (arith, c.loop-hole-2.invariant.0.count, c.loop-hole-2.invariant.0.hole.hole)) c.loop-hole-2.invariant.0 (sym c.index_mut-in-loop-hole-2.ensures.value ∙ c.pop_last-value.ensures) (c.push_first.ensures ∙ ap (λ p. y ∷ p) c.index_mut-in-loop-hole-2-2.ensures.value), omega arith)
