use Rattle.std.proofs.Common.{◌≡◌, ◌∙◌, List, Some, ap, option_map, subst, sym}
use Rattle.notice_chain.specs.Listed.{Listed, adapter}
use Rattle.notice_chain.specs.Released.{Spot}
use Rattle.notice_chain.specs.declared.target.Target.{Target}
use Rattle.repository.specs.Leaving.{LetsGo}
use Rattle.repository.specs.Repository.{state}
use Rattle.repository.specs.State.{State}
use Rattle.repository.specs.Views.{changed_view}
use Rattle.repository.specs.declared.reply.Answer.TheVariants as answer
use Rattle.repository.proofs.AttachLemmas.{detached}
use Rattle.repository.proofs.repository.Repository.detach.Goals as goal

pub returns : goal.returns
returns g c =
    let s : State = state g.L.LinkStore.links c.self.inside in
    let ts : List Target = c.in-Some.targets.now.items in
    let some : Some ts ≡ option_map (λ (r : Listed). r.targets) (adapter c.args.no s.adapters) = sym (ap (option_map (λ t. t.now.items)) c.in-Some.is) ∙ c.targets.ensures in
    let went = subst (λ (t : State). LetsGo t c.in-Ok.spots.items answer.Done (changed_view g.A.Adapter.heard c.release.result) c.release.new.self) (sym c.self.view_is) c.release.ensures in
    rw (← c.self.view_is) (detached s c.args.no ts c.self.invariant.legal.distinct some _ _ (subst (λ (ss : List Spot). LetsGo s ss answer.Done (changed_view g.A.Adapter.heard c.release.result) c.release.new.self) c.in-Ok.ensures went))
