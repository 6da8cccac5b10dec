use Rattle.std.proofs.Common.{refl}
use Rattle.notice_chain.specs.View.{View}
use Rattle.repository.specs.Run.{change_outcome}
use Rattle.repository.specs.Views.{changed_view}
use Rattle.repository.specs.declared.command.Command.{Command}
use Rattle.repository.specs.declared.command.Command.TheVariants.{Load}
use Rattle.script_program.specs.Session.{Session, session}
use Rattle.script_program.proofs.LeftLemmas.{as_executed}
use Rattle.script_program.proofs.line.run_load.Goals as goal

pub returns-clause-ok : goal.returns-clause-ok
returns-clause-ok g c = c.finish_change.ensures c.args.repository.now (Load c.args.resource c.args.document.now) refl refl c.load_text-outcome.ensures

pub returns-clause-left : goal.returns-clause-left
returns-clause-left g c =
    let s : Session = session c.args.repository.now c.args.pool.now in
    let k : Command View = Load c.args.resource c.args.document.now in
    as_executed c.finish_change.result s k (change_outcome (changed_view g.A.Adapter.heard c.load_text-outcome.result)) c.load_text-outcome.new.self c.load_text-outcome.ensures
