use Rattle.std.proofs.Common.{drop}
use Rattle.models.specs.Model.{reading}
use Rattle.change_plans.proofs.UnderwayLemmas.{IsUnderway}
use Rattle.change_plans.proofs.joining.resolve_all.Given as goal

abbrev pub invariant-leads : goal.invariant-leads
invariant-leads g l = IsUnderway (reading l.model) (drop l.lead-index l.leads) l.progress
