use Rattle.std.proofs.Common.{refl}
use Rattle.repository.specs.Run.{change_outcome}
use Rattle.repository.specs.Views.{changed_view}
use Rattle.repository.specs.declared.command.Command.TheVariants.{At}
use Rattle.script_program.specs.Session.{Session, session}
use Rattle.script_program.proofs.LeftLemmas.{as_executed}
use Rattle.script_program.proofs.frequent.run_act.Goals as goal

pub returns-clause-ok : goal.returns-clause-ok
returns-clause-ok g c = c.finish_change.ensures c.args.repository.now (At c.args.end c.args.act) refl refl c.act-outcome.ensures

pub returns-clause-left : goal.returns-clause-left
returns-clause-left g c =
    let s : Session = session c.args.repository.now c.args.pool.now in
    as_executed c.finish_change.result s (At c.args.end c.args.act) (change_outcome (changed_view g.A.Adapter.heard c.act-outcome.result)) c.act-outcome.new.self c.act-outcome.ensures
