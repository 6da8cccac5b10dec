use Rattle.std.proofs.Common.{◌≡◌, Err, refl}
use Rattle.repository.specs.Run.{change_outcome}
use Rattle.notice_chain.specs.View.{View}
use Rattle.repository.specs.Commands.{container}
use Rattle.repository.specs.declared.command.Command.{Command}
use Rattle.script_program.specs.Script.{RunsCommand, command_printed}
use Rattle.script_program.specs.Session.{Session, session}
use Rattle.script_program.proofs.SessionLemmas.{adds-run}
use Rattle.script_program.proofs.frequent.run_container.Goals as goal

pub returns-in-Err : goal.returns-in-Err
returns-in-Err g c = λ pool.
    let s : Session = session c.args.repository.now pool in
    let k : Command View = container c.args.object in
    let o = change_outcome (Err c.in-Err.refused) in
    adds-run c.print_refused.result _ _ (λ p. p ≡ command_printed s.state.model.metamodel k o) (λ p. RunsCommand s k p s)
    (λ p is. record { outcome = o; executed = c.in-Err.ensures.read; pool = refl; printed = is })
    (c.print_refused.ensures s.state.model.metamodel k)
