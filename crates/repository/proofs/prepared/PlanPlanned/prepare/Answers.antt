use Rattle.std.proofs.Common.{◌∙◌}
use Rattle.models.specs.Model.{reading}
use Rattle.change_plans.specs.declared.planned.Finding.TheVariants as finding
use Rattle.change_plans.proofs.ValueLemmas.{is-plain-link}
use Rattle.change_plans.specs.Plans.{IsPlanOf, of_links}
use Rattle.repository.proofs.PlanLemmas.{of-added, passed_refusal, plan_refusal}
use Rattle.repository.proofs.ValueLemmas.{answered-early-links, none-goes}
use Rattle.repository.proofs.prepared.PlanPlanned.prepare.Goals as goal

pub known_answer-requires : goal.known_answer-requires
known_answer-requires g c = record { proper = c.requires.proper; known = answered-early-links c.args.model.now.metamodel c.args.change c.requires.covered }

pub returns-in_err-edits-clause-refused : goal.returns-in_err-edits-clause-refused
returns-in_err-edits-clause-refused g c = passed_refusal c.args.model.now c.args.change _ c.from_residual-in_err-edits.result c.from_residual-in_err-edits.ensures.1 (plan_refusal c.args.model.now c.args.change _ (λ _. c.in_err-edits.ensures.refused))

pub returns-clause-spots : goal.returns-clause-spots
returns-clause-spots g c = c.new.ensures.items ∙ none-goes (reading c.args.model.now) c.args._adapters.now.0 c.args.change (is-plain-link (reading c.args.model.now) c.args.change c.requires.covered)

pub returns-clause-planned : goal.returns-clause-planned
returns-clause-planned g c = λ empty. (finding.Nothing, of-added (λ ns. IsPlanOf c.args.is_heard c.args.model.now c.args.change (of_links _ ns)) _ _ empty c.in_ok-edits.ensures.planned)
