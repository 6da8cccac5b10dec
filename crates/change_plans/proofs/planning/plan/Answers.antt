use Rattle.std.proofs.Common.{sym}
use Rattle.models.specs.Model.{reading}
use Rattle.change_plans.proofs.RefusalLemmas.{late-refused}
use Rattle.change_plans.proofs.planning.plan.Goals as goal

pub returns-in-Some : goal.returns-in-Some
returns-in-Some g c = λ _. late-refused (reading c.args.model.now) c.args.change c.in-Some.refused (sym c.in-Some.ensures)
