use Rattle.script_program.proofs.SessionLemmas.{said-alone}
use Rattle.script_program.proofs.interpreter.Interpreter.answer.Goals as goal

pub returns : goal.returns
returns g c = said-alone c.run_line.result _ _ (rw c.clear.ensures at c.run_line.ensures.ok)
