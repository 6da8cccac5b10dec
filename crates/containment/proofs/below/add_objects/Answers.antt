use Rattle.std.proofs.Common.{◌≡◌, rules, true, subst, ◌<◌, ℕ}
use Rattle.models.specs.Model.{reading}
use Rattle.containment.proofs.PartLemmas.{values-linked}
use Rattle.containment.proofs.ForestLemmas.{objects-step}
use Rattle.containment.proofs.below.add_objects.Goals as goal

pub loop-index-preserved : goal.loop-index-preserved
loop-index-preserved g c =
    let s = c.args.model.now in
    let e = c.args.end in
    let linked = values-linked s e c.requires.reference in
    let added : c.add_some.result ≡ true = search rules in
    objects-step ((reading s).values e) c.loop-index.index _ _ _ (subst (λ (n : ℕ). c.loop-index.index < n) c.len-index-end.ensures c.loop-index-test.true)
    (rw (linked, ← c.store.ensures.links, ← c.at.ensures) (c.add_some.ensures added)) c.loop-index.invariant
