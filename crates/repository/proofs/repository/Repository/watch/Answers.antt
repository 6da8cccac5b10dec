use Rattle.std.proofs.Common.{[], None, Ok, Some}
use Rattle.repository.specs.Repository.{state}
use Rattle.repository.specs.State.{State}
use Rattle.repository.specs.declared.command.Command.TheVariants.{Watch}
use Rattle.repository.specs.declared.reply.Answer.TheVariants as answer
use Rattle.repository.proofs.AttachLemmas.{found-refusal, not_watched, nowhere_to_watch, watched}
use Rattle.repository.proofs.LegalLemmas.{executed-legal}
use Rattle.repository.proofs.repository.Repository.watch.Goals as goal

pub returns-in-Some : goal.returns-in-Some
returns-in-Some g c =
    let a = c.args in
    let s : State = state g.L.LinkStore.links c.self.inside in
    rw (← c.self.view_is) (nowhere_to_watch s a.no a.target a.deep c.in-Some.refused (found-refusal s a.self.now c.model.result a.target c.node_refusal.result (Some c.in-Some.refused) c.self.view_is c.model.ensures c.node_refusal.ensures c.in-Some.is))

pub returns-in-Err : goal.returns-in-Err
returns-in-Err g c =
    let a = c.args in
    let s : State = state g.L.LinkStore.links c.self.inside in
    let there = found-refusal s a.self.now c.model.result a.target c.node_refusal.result None c.self.view_is c.model.ensures c.node_refusal.ensures c.in_default.is in
    rw (← c.self.view_is, c.in-Err.ensures.kept) (not_watched s a.no a.target a.deep c.in-Err.refused there c.in-Err.ensures.reason)

pub returns : goal.returns
returns g c =
    let a = c.args in
    let s : State = state g.L.LinkStore.links c.self.inside in
    let there = found-refusal s a.self.now c.model.result a.target c.node_refusal.result None c.self.view_is c.model.ensures c.node_refusal.ensures c.in_default.is in
    let done = c.in-Ok.ensures in
    rw (← c.self.view_is, c.reply.ensures, done.ok) (watched s a.no a.target a.deep c.in-Ok.added done.added there done.allowed)

pub invariant_of-self-2 : goal.invariant_of-self-2
invariant_of-self-2 g c =
    let a = c.args in
    let s : State = state g.L.LinkStore.links c.self.inside in
    let there = found-refusal s a.self.now c.model.result a.target c.node_refusal.result None c.self.view_is c.model.ensures c.node_refusal.ensures c.in_default.is in
    let done = c.in-Ok.ensures in
    rw done.ok (record { legal = executed-legal s _ (Watch a.no a.target a.deep) (Ok (record { answer = answer.Flag c.in-Ok.added; told = []; released = [] })) (watched s a.no a.target a.deep c.in-Ok.added done.added there done.allowed) c.self.invariant.legal; steady = c.self.invariant.steady; kinds_are = c.self.invariant.kinds_are; paths = c.self.invariant.paths; hearers = rw c.forget.ensures tt })
