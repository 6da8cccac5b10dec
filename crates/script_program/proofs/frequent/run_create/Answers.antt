use Rattle.std.proofs.Common.{◌≡◌, ◌∙◌, Ok, Err, ap, ap₂, sym, refl}
use Rattle.notice_chain.specs.View.{View}
use Rattle.repository.specs.Run.{change_outcome, read_outcome}
use Rattle.repository.specs.declared.command.Command.TheVariants.{Create}
use Rattle.repository.specs.declared.reply.Answer.TheVariants as answer
use Rattle.script_program.specs.Bind.{class_number, create_command}
use Rattle.script_program.specs.Script.{RunsCommand, command_printed}
use Rattle.script_program.specs.Session.{Session, session}
use Rattle.script_program.proofs.SessionLemmas.{adds-run}
use Rattle.script_program.proofs.LeftLemmas.{as_executed}
use Rattle.script_program.proofs.frequent.run_create.Goals as goal

pub returns-in-Ok-clause-ok : goal.returns-in-Ok-clause-ok
returns-in-Ok-clause-ok g c = λ pool.
    let s : Session = session c.args.repository.now pool in
    let t : Session = session c.create_object.new.self pool in
    let k = Create c.class_number-class.result in
    let o = read_outcome answer.Object (Ok c.in-Ok.object) in
    let is : create_command {A = View} s.state.model.metamodel c.args.class ≡ k =
    ap Create (sym (c.class_number-class.ensures ∙ ap₂ class_number c.meta.ensures c.as_str.ensures)) in
    rw is
    (adds-run c.print_object.result _ _ (λ p. p ≡ command_printed s.state.model.metamodel k o) (λ p. RunsCommand s k p t)
    (λ p shown. record { outcome = o; executed = rw c.in-Ok.is at c.create_object.ensures; pool = refl; printed = shown })
    (c.print_object.ensures s.state.model.metamodel k))

pub returns-in-Err-clause-ok : goal.returns-in-Err-clause-ok
returns-in-Err-clause-ok g c = λ pool.
    let s : Session = session c.args.repository.now pool in
    let t : Session = session c.create_object.new.self pool in
    let k = Create c.class_number-class.result in
    let o = change_outcome (Err c.in-Err.refused) in
    let is : create_command {A = View} s.state.model.metamodel c.args.class ≡ k =
    ap Create (sym (c.class_number-class.ensures ∙ ap₂ class_number c.meta.ensures c.as_str.ensures)) in
    rw is
    (adds-run c.print_refused.result _ _ (λ p. p ≡ command_printed s.state.model.metamodel k o) (λ p. RunsCommand s k p t)
    (λ p shown. record { outcome = o; executed = rw c.in-Err.is at c.create_object.ensures; pool = refl; printed = shown })
    (c.print_refused.ensures s.state.model.metamodel k))

---------------------------------------------------------------- what is left if the answer could not be added

pub returns-in-Ok-clause-left : goal.returns-in-Ok-clause-left
returns-in-Ok-clause-left g c = λ pool.
    let s : Session = session c.args.repository.now pool in
    let k = Create c.class_number-class.result in
    let o = read_outcome answer.Object (Ok c.in-Ok.object) in
    let is : create_command {A = View} s.state.model.metamodel c.args.class ≡ k =
    ap Create (sym (c.class_number-class.ensures ∙ ap₂ class_number c.meta.ensures c.as_str.ensures)) in
    rw is (as_executed c.print_object.result s k o c.create_object.new.self (rw c.in-Ok.is at c.create_object.ensures))

pub returns-in-Err-clause-left : goal.returns-in-Err-clause-left
returns-in-Err-clause-left g c = λ pool.
    let s : Session = session c.args.repository.now pool in
    let k = Create c.class_number-class.result in
    let o = change_outcome (Err c.in-Err.refused) in
    let is : create_command {A = View} s.state.model.metamodel c.args.class ≡ k =
    ap Create (sym (c.class_number-class.ensures ∙ ap₂ class_number c.meta.ensures c.as_str.ensures)) in
    rw is (as_executed c.print_refused.result s k o c.create_object.new.self (rw c.in-Err.is at c.create_object.ensures))
