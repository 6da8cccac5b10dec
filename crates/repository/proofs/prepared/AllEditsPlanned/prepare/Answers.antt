use Rattle.std.proofs.Common.{◌∙◌, [], ap, is_some}
use Rattle.std.proofs.lemmas.Option.{same_Some}
use Rattle.models.specs.Model.{reading}
use Rattle.repository.specs.Answers.{is_answered_late}
use Rattle.repository.proofs.LeavingLemmas.{answer-planned, found-early, found-late, spots-found}
use Rattle.repository.proofs.LoadLemmas.{proper-read}
use Rattle.repository.proofs.PlanLemmas.{passed_refusal, plan_refusal}
use Rattle.repository.proofs.prepared.AllEditsPlanned.prepare.Goals as goal
use Rattle.repository.proofs.prepared.AllEditsPlanned.prepare.Goals.{in-None, in-Some}

pub plan-requires-clause-read : goal.plan-requires-clause-read
plan-requires-clause-read g c = proper-read (reading c.args.model.now) c.requires.proper.0 c.args.change c.requires.proper.1

pub returns-in_err-planned-clause-refused : goal.returns-in_err-planned-clause-refused
returns-in_err-planned-clause-refused g c = passed_refusal c.args.model.now c.args.change _ c.from_residual-in_err-planned.result c.from_residual-in_err-planned.ensures.1 (plan_refusal c.args.model.now c.args.change _ c.in_err-planned.ensures)

pub spots_gone-requires : goal.spots_gone-requires
spots_gone-requires g c = (reading c.args.model.now, c.in_ok-planned.ensures.removed.found)

pub returns-clause-spots : goal.returns-clause-spots
returns-clause-spots g c = c.in_ok-spots.ensures ∙ spots-found (reading c.args.model.now) c.args.change _ c.args.adapters.now.0 c.in_ok-planned.ensures.removed

pub planned_answer-answer-requires : goal.planned_answer-answer-requires
planned_answer-answer-requires g c =
    let plan = c.in_ok-planned.ensures in
    let late = found-late (is_answered_late c.args.change) _ _ (c.in_ok-early.ensures [] c.requires.proper.0 c.requires.proper.1) c.in-None.is in
    record { found = ap is_some (answer-planned (reading c.args.model.now) [] c.requires.proper.0 c.args.change c.in_ok-planned.planned.finding late plan.allowed plan.removed plan.found plan.resolved) }

pub returns-clause-answer : goal.returns-clause-answer
returns-clause-answer g c = λ rs text proper.
    let early = c.in_ok-early.ensures rs text proper in
    let plan = c.in_ok-planned.ensures in
    elim c.match-early-9.branch [
      | in-Some w ↦ w.answer-is ∙ found-early (is_answered_late c.args.change) _ _ _ early w.in-Some.is
      | in-None w ↦ w.answer-is ∙ same_Some _ _ (w.planned_answer-answer.ensures ∙ answer-planned (reading c.args.model.now) rs text c.args.change c.in_ok-planned.planned.finding (found-late (is_answered_late c.args.change) _ _ early w.in-None.is) plan.allowed plan.removed plan.found plan.resolved)
    ]

pub returns-clause-planned : goal.returns-clause-planned
returns-clause-planned g c = λ _. (c.in_ok-planned.planned.finding, c.in_ok-planned.ensures)
