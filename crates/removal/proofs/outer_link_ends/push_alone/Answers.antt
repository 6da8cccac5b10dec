use Rattle.std.proofs.Common.{refl, ℕ, ◌<◌, ◌≤◌, ◌++◌, List, map, slice_get, subst, ap, ◌∙◌}
use Rattle.mm_types.specs.declared.value.Value.{Value}
use Rattle.links.specs.Laws.{goes}
use Rattle.models.specs.Model.{reading}
use Rattle.removal.specs.Ranks.{is_in}
use Rattle.removal.specs.TreeLinkEnds.{link_end}
use Rattle.removal.proofs.PushLemmas.{goes-read, named-end, named-step}
use Rattle.removal.proofs.outer_link_ends.push_alone.Goals as goal

pub loop-index-preserved : goal.loop-index-preserved
loop-index-preserved g c =
    let r = reading c.args.model.now in
    let e = c.args.end in
    let g = is_in c.args.numbers.now in
    let i = c.loop-index.index in
    named-step e (goes g) (r.values e) i _ _ _ (slice_get (r.values e) i) (subst (λ (n : ℕ). i < n) c.len-index-end.ensures c.loop-index-test.true)
    (c.in_ok-push_if_gone.ensures ∙ ap (λ (vs : List Value). c.loop-index.link_ends.items ++ map (link_end e) vs) (goes-read g (slice_get (r.values e) i) c.object_in.result c.object_in.ensures.object)) refl c.loop-index.invariant

pub returns : goal.returns
returns g c =
    let r = reading c.args.model.now in
    let e = c.args.end in
    named-end e (goes (is_in c.args.numbers.now)) (r.values e) c.loop-index.index _ _ (subst (λ (n : ℕ). n ≤ c.loop-index.index) c.len-index-end.ensures c.loop-index-test.false) c.loop-index.invariant
