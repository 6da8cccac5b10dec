use Rattle.std.proofs.Common.{refl}
use Rattle.repository.specs.declared.command.Command.TheVariants.{Load}
use Rattle.script_program.proofs.SessionLemmas.{said-alone}
use Rattle.script_program.proofs.interpreter.Interpreter.load.Goals as goal

pub returns : goal.returns
returns g c = said-alone c.finish_change.result _ _ (rw c.clear.ensures at c.finish_change.ensures c.args.self.now.repository (Load c.args.resource c.args.document.now) refl refl c.load-outcome.ensures)
