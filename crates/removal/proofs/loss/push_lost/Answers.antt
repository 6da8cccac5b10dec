use Rattle.std.proofs.Common.{◌++◌, List, arith, sym, ap, ◌∙◌}
use Rattle.models.specs.Model.{reading}
use Rattle.removal.specs.Losses.{is_lost, losses_at}
use Rattle.removal.specs.declared.loss.Loss.{Loss}
use Rattle.removal.proofs.LossLemmas.{added-is, kept-step, lost-step, place-told}
use Rattle.removal.proofs.loss.push_lost.Goals as goal
use Rattle.removal.proofs.loss.push_lost.Goals.{then-is_lost+in_ok-push_loss, else-is_lost}

pub loop-index-preserved : goal.loop-index-preserved
loop-index-preserved g c =
    let r = reading c.args.model.now in
    let o = c.args.removal.now.object in
    let e = c.args.end in
    let here = place-told r o e _ _ _ _ _ _ c.len-index-end.ensures c.loop-index-test.true c.object_in-found.ensures.object c.requires.removal.numbers c.is_held_by-is_holder.ensures c.is_lost.ensures in
    elim c.if-is_lost.branch [
      | then-is_lost+in_ok-push_loss w ↦ record {
        few = (let few = c.loop-index.invariant.few in omega (arith, few, w.kept-is));
        whole = rw (w.out-is, w.kept-is) (lost-step e (is_lost r o e) (r.values e) c.loop-index.index c.loop-index.kept here.value c.loop-index.out.items w.push_loss.new.out.items (c.args.out.now.items ++ losses_at r o e) here.at
            (sym here.told ∙ w.if-is_lost.true) (w.in_ok-push_loss.ensures ∙ ap (λ (ls : List Loss). c.loop-index.out.items ++ ls) (added-is r o e here.value c.loop-index.kept c.object_in-found.result here.read (sym here.told ∙ w.if-is_lost.true)))
            c.loop-index.invariant.whole);
      }
      | else-is_lost w ↦ record {
        few = (let few = c.loop-index.invariant.few in omega (arith, few, w.kept-is));
        whole = rw (w.out-is, w.kept-is) (kept-step e (is_lost r o e) (r.values e) c.loop-index.index c.loop-index.kept here.value c.loop-index.out.items (c.args.out.now.items ++ losses_at r o e) here.at (sym here.told ∙ w.if-is_lost.false) c.loop-index.invariant.whole);
      }
    ]
