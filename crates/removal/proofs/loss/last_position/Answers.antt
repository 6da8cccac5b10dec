use Rattle.std.proofs.Common.{◌≡◌, ◌<◌, ℕ, true, arith, sym, ap, ◌∙◌, subst, Some}
use Rattle.models.specs.Model.{reading}
use Rattle.mm_types.specs.SameValues.{same_value-true}
use Rattle.mm_types.specs.declared.value.Value.{Value}
use Rattle.mm_types.specs.declared.value.Value.TheVariants as value
use Rattle.removal.specs.Losses.{is_lost}
use Rattle.removal.proofs.LossLemmas.{held-by, holder-reference, itself-stays, left-found, left-kept_step, left-lost_step, place-told, place_left, read-of, same-read, some-below}
use Rattle.removal.proofs.loss.last_position.Goals as goal
use Rattle.removal.proofs.loss.last_position.Goals.{then-not-is_lost, else-not-is_lost}

pub object_in-found-requires : goal.object_in-found-requires
object_in-found-requires g c = record { reference = holder-reference c.args.model.now c.lemma_is_legal.ensures c.args.removal.now.object c.args.end c.requires.held }

-- at the object itself
pub returns-then-is_found : goal.returns-then-is_found
returns-then-is_found g c =
    let r = reading c.args.model.now in
    let o = c.args.removal.now.object in
    let e = c.args.end in
    let i = c.loop-index.index in
    let q = c.object_in-found.result in
    let here = some-below (r.values e) i (subst (λ (n : ℕ). i < n) c.len-index-end.ensures c.loop-index-test.true) in
    let read = read-of (r.values e) i here.0 q here.1 c.object_in-found.ensures.object in
    left-found (is_lost r o e) o (r.values e) c.loop-index.index c.loop-index.kept (place_left (is_lost r o e) o (r.values e))
    (here.1 ∙ ap (λ (v : Value). Some v) (sym (same_value-true (value.Object o) here.0 (same-read o here.0 q read ∙ sym c.is_found.ensures ∙ c.if-is_found.true)))) (itself-stays r o e c.requires.held) c.loop-index.invariant.whole

pub loop-index-preserved : goal.loop-index-preserved
loop-index-preserved g c =
    let r = reading c.args.model.now in
    let o = c.args.removal.now.object in
    let e = c.args.end in
    let all = place_left (is_lost r o e) o (r.values e) in
    let here = place-told r o e _ _ _ _ _ _ c.len-index-end.ensures c.loop-index-test.true c.object_in-found.ensures.object c.requires.removal.numbers (held-by r o e c.requires.held) c.is_lost.ensures in
    elim c.if-not-is_lost.branch [
      | then-not-is_lost w ↦ record {
        few = (let few = c.loop-index.invariant.few in omega (arith, few, w.kept-is));
        whole = rw w.kept-is (left-kept_step (is_lost r o e) o (r.values e) c.loop-index.index c.loop-index.kept all here.value here.at (sym here.told ∙ w.if-not-is_lost.true) (same-read o here.value c.object_in-found.result here.read ∙ sym c.is_found.ensures ∙ c.if-is_found.false) c.loop-index.invariant.whole);
      }
      | else-not-is_lost w ↦ record {
        few = (let few = c.loop-index.invariant.few in omega (arith, few, w.kept-is));
        whole = rw w.kept-is (left-lost_step (is_lost r o e) o (r.values e) c.loop-index.index c.loop-index.kept all here.value here.at (sym here.told ∙ w.if-not-is_lost.false) c.loop-index.invariant.whole);
      }
    ]
