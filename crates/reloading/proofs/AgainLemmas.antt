-- A saved model comes back: the loads, and then the resolves.
use Rattle.std.proofs.Common.{◌≡◌, suc, List, [], ◌∷◌, arith, refl, sym, subst}
use Rattle.models.specs.Legal.{IsLegal}
use Rattle.models.specs.Model.{Model, empty_model, model_of, reading}
use Rattle.handshake.specs.Effects.{model_after}
use Rattle.handshake.specs.declared.change.Change.{Change}
use Rattle.reloading.specs.Between.{Between}
use Rattle.reloading.specs.Orders.{after_all, changes}
use Rattle.reloading.specs.Proxies.{proxies_len}
use Rattle.reloading.specs.Reload.{AreResolves, ReloadsInAnyOrder, reloaded_model}
use Rattle.reloading.proofs.OrdersLemmas.{loads-give-between}
use Rattle.reloading.specs.Laws.{IsAllResolved}
use Rattle.reloading.proofs.ReloadLemmas.{AreDone, all-resolved, some-resolves}
use Rattle.reloading.proofs.ResolveAllLemmas.{resolves-all}

-- no change edits the metamodel
pub same-metamodel : (t : Model) (cs : List Change) → (after_all t cs).metamodel ≡ t.metamodel
same-metamodel t [] = refl
same-metamodel t (c ∷ cs) = same-metamodel (model_after t c) cs

pub reloads : (s : Model) → ReloadsInAnyOrder s
reloads s legal steady saved ts order =
    let l = loads-give-between s legal steady saved ts order in
    let t = reloaded_model s ts in
    let u = model_of s.metamodel t.values t.links in
    let same : t ≡ u = λ i. record { metamodel = same-metamodel (empty_model s.metamodel) (changes (reading s) [] ts) i; values = t.values; links = t.links } in
    let other = subst IsLegal same l.legal in
    let between = subst (λ (x : Model). Between (reading s) (reading x)) same l.between in
    record {
      some = subst (λ (x : Model). (cs : List Change) × AreResolves x cs) (sym same) (some-resolves s legal saved.resolved (suc (proxies_len (reading u))) t.values t.links other between (omega arith));
      had = λ cs resolves.
          (let x = subst (λ (y : Model). AreDone s legal saved.resolved y cs) (sym same) (all-resolved s legal saved.resolved cs t.values t.links other between (subst (λ (y : Model). AreResolves y cs) same resolves)) in
          record { loads = l.allowed; resolves = x.allowed; alike = x.alike });
      all = subst (λ (x : Model). IsAllResolved (reading s) x) (sym same) (resolves-all s t.values t.links legal other saved.resolved between);
    }
