use Rattle.std.proofs.Common.{refl}
use Rattle.mm_types.specs.declared.numbers.Node.TheVariants as node
use Rattle.mm_types.specs.declared.read.EndRead.TheVariants.{IsSet}
use Rattle.script_lines.specs.declared.form.FeatureForm.TheVariants as feature
use Rattle.script_lines.specs.declared.form.Form.TheVariants as asks
use Rattle.script_program.specs.Session.{Session, session}
use Rattle.script_program.proofs.SessionLemmas.{bind-given}
use Rattle.script_program.proofs.frequent.run_is_set.Goals as goal

pub returns-clause-ok : goal.returns-clause-ok
returns-clause-ok g c =
    let s : Session = session c.args.repository.now c.args.pool.now in
    rw (← c.feature_number-feature.ensures) (c.run_command.ensures.ok s.pool refl (bind-given s (asks.At (node.Object c.args.object) c.args.name.now (feature.Read IsSet))))

pub returns-clause-left : goal.returns-clause-left
returns-clause-left g c = rw (← c.feature_number-feature.ensures) (c.run_command.ensures.left c.args.pool.now)
