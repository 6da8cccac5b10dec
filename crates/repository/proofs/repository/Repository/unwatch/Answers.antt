use Rattle.std.proofs.Common.{◌∙◌, List, None, true, ap, rules, subst, sym}
use Rattle.notice_chain.specs.Released.{Spot}
use Rattle.repository.specs.Leaving.{LetsGo}
use Rattle.repository.specs.Repository.{state}
use Rattle.repository.specs.State.{State}
use Rattle.repository.specs.Views.{changed_view}
use Rattle.repository.specs.declared.reply.Answer.TheVariants as answer
use Rattle.repository.proofs.AttachLemmas.{found-refusal, known, unwatched}
use Rattle.repository.proofs.repository.Repository.unwatch.Goals as goal

pub returns : goal.returns
returns g c =
    let a = c.args in
    let s : State = state g.L.LinkStore.links c.self.inside in
    let there = found-refusal s a.self.now c.model.result a.target c.node_refusal.result None c.self.view_is c.model.ensures c.node_refusal.ensures c.in_default.is in
    let attached = known s.adapters a.no c.told.result true (c.told.ensures ∙ search rules) (search rules) in
    let flag = ap answer.Flag c.is_target.ensures in
    let went = subst (λ (t : State). LetsGo t c.in-Ok.spots.items (answer.Flag c.is_target.result) (changed_view g.A.Adapter.heard c.release.result) c.release.new.self) (sym c.self.view_is) c.release.ensures in
    rw (← c.self.view_is) (unwatched s a.no a.target (answer.Flag c.is_target.result) flag there attached _ _ (subst (λ (ss : List Spot). LetsGo s ss (answer.Flag c.is_target.result) (changed_view g.A.Adapter.heard c.release.result) c.release.new.self) c.in-Ok.ensures went))
