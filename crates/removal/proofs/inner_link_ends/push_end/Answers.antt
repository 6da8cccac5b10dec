use Rattle.std.proofs.Common.{refl, ℕ, ◌<◌, ◌≤◌, subst, option_map}
use Rattle.models.specs.Found.{found_value}
use Rattle.models.specs.Model.{reading}
use Rattle.removal.specs.Ranks.{is_in}
use Rattle.removal.specs.TreeLinkEnds.{is_named_here}
use Rattle.removal.proofs.PushLemmas.{named-end, named-step}
use Rattle.removal.proofs.inner_link_ends.push_end.Goals as goal

pub loop-index-init : goal.loop-index-init
loop-index-init g c = refl

pub loop-index-preserved : goal.loop-index-preserved
loop-index-preserved g c =
    let r = reading c.args.model.now in
    let e = c.args.end in
    named-step e (is_named_here r (is_in c.args.numbers.now) e.feature) (r.values e) c.loop-index.index _ _ _ (option_map found_value c.value_in.result) (subst (λ (n : ℕ). c.loop-index.index < n) c.len-index-end.ensures c.loop-index-test.true)
    c.in_ok-push_named.ensures c.value_in.ensures c.loop-index.invariant

pub returns : goal.returns
returns g c =
    let r = reading c.args.model.now in
    let e = c.args.end in
    named-end e (is_named_here r (is_in c.args.numbers.now) e.feature) (r.values e) c.loop-index.index _ _ (subst (λ (n : ℕ). n ≤ c.loop-index.index) c.len-index-end.ensures c.loop-index-test.false) c.loop-index.invariant
