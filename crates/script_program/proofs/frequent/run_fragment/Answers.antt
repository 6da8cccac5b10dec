use Rattle.std.proofs.Common.{◌≡◌, Ok, Err, refl}
use Rattle.notice_chain.specs.View.{View}
use Rattle.repository.specs.Commands.{fragment}
use Rattle.repository.specs.Run.{change_outcome, read_outcome}
use Rattle.repository.specs.declared.command.Command.{Command}
use Rattle.repository.specs.declared.reply.Answer.TheVariants as answer
use Rattle.script_program.specs.Script.{RunsCommand, command_printed}
use Rattle.script_program.specs.Session.{Session, session}
use Rattle.script_program.proofs.SessionLemmas.{adds-run}
use Rattle.script_program.proofs.LeftLemmas.{as_executed}
use Rattle.script_program.proofs.frequent.run_fragment.Goals as goal

pub returns-in-Ok-clause-ok : goal.returns-in-Ok-clause-ok
returns-in-Ok-clause-ok g c = λ pool.
    let s : Session = session c.args.repository.now pool in
    let t : Session = session c.remembered_fragment.new.self pool in
    let k : Command View = fragment c.args.object in
    let o = read_outcome answer.Fragment (Ok c.in-Ok.fragment) in
    adds-run c.print_fragment.result _ _ (λ p. p ≡ command_printed s.state.model.metamodel k o) (λ p. RunsCommand s k p t)
    (λ p shown. record { outcome = o; executed = rw c.in-Ok.is at c.remembered_fragment.ensures; pool = refl; printed = shown })
    (c.print_fragment.ensures s.state.model.metamodel k)

pub returns-in-Err-clause-ok : goal.returns-in-Err-clause-ok
returns-in-Err-clause-ok g c = λ pool.
    let s : Session = session c.args.repository.now pool in
    let t : Session = session c.remembered_fragment.new.self pool in
    let k : Command View = fragment c.args.object in
    let o = change_outcome (Err c.in-Err.refused) in
    adds-run c.print_refused.result _ _ (λ p. p ≡ command_printed s.state.model.metamodel k o) (λ p. RunsCommand s k p t)
    (λ p shown. record { outcome = o; executed = rw c.in-Err.is at c.remembered_fragment.ensures; pool = refl; printed = shown })
    (c.print_refused.ensures s.state.model.metamodel k)

---------------------------------------------------------------- what is left if the answer could not be added

pub returns-in-Ok-clause-left : goal.returns-in-Ok-clause-left
returns-in-Ok-clause-left g c = λ pool.
    let s : Session = session c.args.repository.now pool in
    let k : Command View = fragment c.args.object in
    as_executed c.print_fragment.result s k (read_outcome answer.Fragment (Ok c.in-Ok.fragment)) c.remembered_fragment.new.self (rw c.in-Ok.is at c.remembered_fragment.ensures)

pub returns-in-Err-clause-left : goal.returns-in-Err-clause-left
returns-in-Err-clause-left g c = λ pool.
    let s : Session = session c.args.repository.now pool in
    let k : Command View = fragment c.args.object in
    as_executed c.print_refused.result s k (change_outcome (Err c.in-Err.refused)) c.remembered_fragment.new.self (rw c.in-Err.is at c.remembered_fragment.ensures)
