use Rattle.std.proofs.Common.{List, map, ◌<◌, ◌≤◌, ◌++◌, ℕ, Option, option_map, option_to_list, ap, ◌∙◌, subst}
use Rattle.mm_types.specs.declared.value.Value.{Value}
use Rattle.removal.specs.declared.link_end.LinkEnd.{LinkEnd}
use Rattle.models.specs.Model.{reading}
use Rattle.removal.specs.TreeLinkEnds.{link_end}
use Rattle.handshake.proofs.FeatureChangeLemmas.{link_ends-end, link_ends-step}
use Rattle.handshake.proofs.displaced.link_ends_at.Goals as goal

pub loop-index-init : goal.loop-index-init
loop-index-init g c = ap (λ (ts : List LinkEnd). ts ++ map (link_end c.args.end) ((reading c.args.model.now).values c.args.end)) c.new-link_ends.ensures.items

pub loop-index-preserved : goal.loop-index-preserved
loop-index-preserved g c =
    let e = c.args.end in
    link_ends-step e ((reading c.args.model.now).values e) c.loop-index.index _ _ _ (subst (λ (n : ℕ). c.loop-index.index < n) c.len-index-end.ensures c.loop-index-test.true)
    (c.in_ok-push_link_end.ensures ∙ ap (λ (x : Option Value). c.loop-index.link_ends.items ++ option_to_list (option_map (link_end e) x)) c.value_in.ensures) c.loop-index.invariant

pub returns : goal.returns
returns g c =
    let e = c.args.end in
    link_ends-end e ((reading c.args.model.now).values e) c.loop-index.index _ _ (subst (λ (n : ℕ). n ≤ c.loop-index.index) c.len-index-end.ensures c.loop-index-test.false) c.loop-index.invariant
