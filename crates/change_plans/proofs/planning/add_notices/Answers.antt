use Rattle.std.proofs.Common.{◌≡◌, ◌++◌, OnOk, [], None, ap, map, option_map, subst, sym, ◌∙◌}
use Rattle.std.specs.List.{enumerate_from}
use Rattle.models.specs.Model.{Model, reading}
use Rattle.handshake.specs.Refusals.{late_refusal}
use Rattle.handshake.specs.Reports.{root_notice}
use Rattle.handshake.specs.FeatureChanges.{chain}
use Rattle.handshake.proofs.ApartLemmas.{made-chain, nothing-loaded}
use Rattle.handshake.proofs.DestroyLemmas.{lost-chain, nothing-destroyed}
use Rattle.handshake.proofs.LoadChainLemmas.{load-chain}
use Rattle.change_plans.proofs.planning.add_notices.Goals as goal
use Rattle.models.specs.Reading.{contents_end}

pub returns-in-Some : goal.returns-in-Some
returns-in-Some g c =
    let some = ap (λ q. option_map (λ y. y.object) q) c.in-Some.is in
    let is = lost-chain c.args.model.now c.args.change.now (option_map (λ y. y.object) c.args.removal.now) c.in-Some.removal.object c.lemma_is_legal.ensures c.requires.allowed.asked c.requires.allowed.removal.whose (sym some) in
    subst (λ x. OnOk c.lost_notices.result (c.lost_notices.new.chain ≡ c.args.chain.now ++ x)) is c.lost_notices.ensures

pub returns-in-Load : goal.returns-in-Load
returns-in-Load g c =
    let s : Model = c.args.model.now in
    let k = c.in-Load.resource in
    let doc = c.in-Load.doc in
    let end = c.contents_end-roots.ensures ∙ ap (λ m. contents_end m k) c.meta.ensures in
    let late = subst (λ x. late_refusal (reading s) x ≡ None) c.in-Load.is c.requires.allowed.allowed in
    let is = (λ i. map (root_notice (c.next.ensures i) (end i)) (enumerate_from 0 (c.as_slice.ensures i)))
    ∙ sym (load-chain s k doc c.lemma_is_legal.ensures late) ∙ ap (λ x. chain (reading s) x) (sym c.in-Load.is) in
    subst (λ x. OnOk c.root_notices.result (c.root_notices.new.chain ≡ c.args.chain.now ++ x)) is c.root_notices.ensures

pub returns : goal.returns
returns g c =
    let none = nothing-destroyed c.args.change.now c.args.removal.now c.requires.allowed.removal.whose c.in_default.not-Some in
    let unloaded = nothing-loaded c.args.change.now c.in_default-change.not-Load in
    let is = made-chain c.args.model.now c.args.change.now c.args.link_ends.now c.requires.allowed.one c.lemma_is_legal.ensures none unloaded c.requires.allowed.asked c.requires.allowed.allowed c.requires.cut in
    subst (λ x. OnOk c.notices.result (c.notices.new.chain ≡ c.args.chain.now ++ x)) is c.notices.ensures
