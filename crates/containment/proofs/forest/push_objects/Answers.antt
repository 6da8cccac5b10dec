use Rattle.std.proofs.Common.{refl, subst, ◌<◌, ◌≤◌, ℕ}
use Rattle.models.specs.Model.{reading}
use Rattle.containment.proofs.PartLemmas.{values-linked}
use Rattle.containment.proofs.ForestLemmas.{objects-end, objects-step}
use Rattle.containment.proofs.forest.push_objects.Goals as goal

pub loop-index-init : goal.loop-index-init
loop-index-init g c = refl

pub loop-index-preserved : goal.loop-index-preserved
loop-index-preserved g c =
    let s = c.args.model.now in
    let e = c.args.end in
    let linked = values-linked s e c.requires.reference in
    objects-step ((reading s).values e) c.loop-index.index _ _ _ (subst (λ (n : ℕ). c.loop-index.index < n) c.len-index-end.ensures c.loop-index-test.true)
    (rw (linked, ← c.store.ensures.links, ← c.at.ensures) c.in_ok-push_some.ensures) c.loop-index.invariant

pub returns : goal.returns
returns g c =
    objects-end ((reading c.args.model.now).values c.args.end) c.loop-index.index _ _ (subst (λ (n : ℕ). n ≤ c.loop-index.index) c.len-index-end.ensures c.loop-index-test.false) c.loop-index.invariant
