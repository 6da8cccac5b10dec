use Rattle.std.proofs.Common.{refl}
use Rattle.mm_types.specs.declared.read.EndRead.TheVariants.{Get}
use Rattle.script_lines.specs.declared.form.FeatureForm.TheVariants as feature
use Rattle.script_lines.specs.declared.form.Form.TheVariants as asks
use Rattle.mm_types.specs.declared.numbers.Node.TheVariants as node
use Rattle.script_program.specs.Session.{Session, session}
use Rattle.script_program.proofs.SessionLemmas.{bind-given}
use Rattle.script_program.proofs.LeftLemmas.{unchanged}
use Rattle.script_program.proofs.frequent.run_read.Goals as goal

pub returns-else-is_single-clause-ok : goal.returns-else-is_single-clause-ok
returns-else-is_single-clause-ok g c =
    let s : Session = session c.args.repository.now c.args.pool.now in
    rw (← c.feature_number-feature.ensures) (c.run_command.ensures.ok s.pool refl (bind-given s (asks.At (node.Object c.args.object) c.args.name.now (feature.Read Get))))

pub returns-then-is_single-clause-ok : goal.returns-then-is_single-clause-ok
returns-then-is_single-clause-ok g c = rw (← c.feature_number-feature.ensures) (c.run_get.ensures c.args.pool.now)

pub returns-else-is_single-clause-left : goal.returns-else-is_single-clause-left
returns-else-is_single-clause-left g c = rw (← c.feature_number-feature.ensures) (c.run_command.ensures.left c.args.pool.now)

pub returns-then-is_single-clause-left : goal.returns-then-is_single-clause-left
returns-then-is_single-clause-left g c = unchanged c.run_get.result _ c.args.repository.now
