use Rattle.std.proofs.Common.{◌≡◌, ◌∙◌, ◌∷◌, [], false, List, map, ap, sym, subst, if◌then◌else◌}
use Rattle.mm_types.specs.declared.numbers.AdapterNo.{AdapterNo}
use Rattle.notice_chain.proofs.ReleasedLemmas.{all-stay}
use Rattle.notice_chain.specs.Listed.{HaveTargets, Listed, is_target, with_changed}
use Rattle.notice_chain.specs.Released.{Spot, adapter_after_loss, adapters_without_target, last_notice, leaving_adapters, released_adapters, staying_adapters}
use Rattle.notice_chain.specs.View.{View}
use Rattle.adapter_list.proofs.list.AdapterList.detach.Goals as goal

-- a node that is no target is taken from no adapter
same : (s : Spot) (rs : List Listed) → is_target s.0 s.1 rs ≡ false → adapters_without_target s rs ≡ rs
same s rs none = ap (λ b. if b then with_changed s.0 (adapter_after_loss s.1 (last_notice s rs)) rs else rs) none

pub returns-then-not-is_target-clause-others : goal.returns-then-not-is_target-clause-others
returns-then-not-is_target-clause-others g c =
    let s : Spot = (c.args.no, c.args.target) in
    let rs = c.args.self.now.0 in
    sym (all-stay rs c.lemma_keeps_rules.ensures.some).0 ∙ ap staying_adapters (sym (same s rs (sym c.is_target.ensures ∙ c.if-not-is_target.true)))

pub returns-then-not-is_target-clause-released : goal.returns-then-not-is_target-clause-released
returns-then-not-is_target-clause-released g c =
    let s : Spot = (c.args.no, c.args.target) in
    let rs = c.args.self.now.0 in
    ap (λ (qs : List (AdapterNo × View)). map (λ (v : AdapterNo × View). v.1) qs) (sym (all-stay rs c.lemma_keeps_rules.ensures.some).1 ∙ ap leaving_adapters (sym (same s rs (sym c.is_target.ensures ∙ c.if-not-is_target.true))))

pub detach-detached-requires-clause-some : goal.detach-detached-requires-clause-some
detach-detached-requires-clause-some g c = subst HaveTargets (sym c.take_apart-going.ensures.now) c.take_apart-going.ensures.some

pub returns-clause-told : goal.returns-clause-told
returns-clause-told g c =
    let s : Spot = (c.args.no, c.args.target) in
    c.detach-detached.ensures.told ∙ ap (λ (qs : List Listed). (released_adapters (s ∷ []) qs).told) c.take_apart-going.ensures.now
