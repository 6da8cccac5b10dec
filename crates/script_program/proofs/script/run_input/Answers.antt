use Rattle.script_program.specs.Session.{session_with}
use Rattle.script_program.proofs.ScriptLemmas.{silent}
use Rattle.script_program.proofs.script.run_input.Goals as goal

pub returns-in_default-clause-err : goal.returns-in_default-clause-err
returns-in_default-clause-err g c = silent c.args.dress (session_with g.A.Adapter.heard c.args.repository.now c.args.boxes.items) c.args.input.now _
