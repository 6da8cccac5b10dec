use Rattle.std.proofs.Common.{[], None, Ok, Some}
use Rattle.repository.specs.declared.command.Command.TheVariants.{Attach}
use Rattle.repository.specs.declared.reply.Answer.TheVariants as answer
use Rattle.repository.specs.Repository.{state}
use Rattle.repository.specs.State.{State}
use Rattle.repository.proofs.AttachLemmas.{attached, found-refusal, not_attached, nowhere_to_attach}
use Rattle.repository.proofs.LegalLemmas.{executed-legal}
use Rattle.repository.proofs.repository.Repository.attach.Goals as goal

pub returns-in-Some : goal.returns-in-Some
returns-in-Some g c =
    let a = c.args in
    let s : State = state g.L.LinkStore.links c.self.inside in
    rw (← c.self.view_is) (nowhere_to_attach s a.no a.target a.deep (g.A.Adapter.heard a.adapter) c.in-Some.refused (found-refusal s a.self.now c.model.result a.target c.node_refusal.result (Some c.in-Some.refused) c.self.view_is c.model.ensures c.node_refusal.ensures c.in-Some.is))

pub returns-in-Err : goal.returns-in-Err
returns-in-Err g c =
    let a = c.args in
    let s : State = state g.L.LinkStore.links c.self.inside in
    let there = found-refusal s a.self.now c.model.result a.target c.node_refusal.result None c.self.view_is c.model.ensures c.node_refusal.ensures c.in_default.is in
    let done = c.in-Err.ensures in
    rw (← c.self.view_is, done.given_back, done.unchanged) (not_attached s a.no a.target a.deep (g.A.Adapter.heard a.adapter) c.in-Err.refused.reason there done.reason)

pub returns : goal.returns
returns g c =
    let a = c.args in
    let s : State = state g.L.LinkStore.links c.self.inside in
    let there = found-refusal s a.self.now c.model.result a.target c.node_refusal.result None c.self.view_is c.model.ensures c.node_refusal.ensures c.in_default.is in
    let done = c.in_default-attach.ensures in
    rw (← c.self.view_is, c.reply.ensures, done.ok) (attached s a.no a.target a.deep (g.A.Adapter.heard a.adapter) there done.allowed)

pub invariant_of-self-2 : goal.invariant_of-self-2
invariant_of-self-2 g c =
    let a = c.args in
    let s : State = state g.L.LinkStore.links c.self.inside in
    let there = found-refusal s a.self.now c.model.result a.target c.node_refusal.result None c.self.view_is c.model.ensures c.node_refusal.ensures c.in_default.is in
    let done = c.in_default-attach.ensures in
    rw done.ok (record { legal = executed-legal s _ (Attach a.no a.target a.deep (g.A.Adapter.heard a.adapter)) (Ok (record { answer = answer.Done; told = []; released = [] })) (attached s a.no a.target a.deep (g.A.Adapter.heard a.adapter) there done.allowed) c.self.invariant.legal; steady = c.self.invariant.steady; kinds_are = c.self.invariant.kinds_are; paths = c.self.invariant.paths; hearers = rw c.forget.ensures tt })
