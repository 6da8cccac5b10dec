use Rattle.std.proofs.Common.{◌∙◌, IfOk, subst, sym}
use Rattle.models.specs.Model.{reading}
use Rattle.change_plans.specs.Plans.{IsPlanOf}
use Rattle.handshake.specs.Changes.{IsRemovalOf}
use Rattle.handshake.specs.declared.change.Change.{Change}
use Rattle.change_plans.proofs.PlannedLemmas.{destroys-or-finds, none-counted, planned}
use Rattle.change_plans.proofs.RefusalLemmas.{not-all}
use Rattle.change_plans.proofs.planning.made.Goals as goal

pub returns-in-ResolveAll : goal.returns-in-ResolveAll
returns-in-ResolveAll g c = subst (λ (x : Change). IfOk c.all_resolved.result (IsPlanOf c.args.is_heard c.args.model.now x)) (sym c.in-ResolveAll.is) c.all_resolved.ensures

pub edits_and_notices-requires-clause-one : goal.edits_and_notices-requires-clause-one
edits_and_notices-requires-clause-one g c = not-all c.args.change c.in_default.not-ResolveAll

pub finding-requires : goal.finding-requires
finding-requires g c = record { one = λ some. c.requires.found ∙ destroys-or-finds (reading c.args.model.now) c.args.change c.in_ok-removal.removal c.in_ok-removal.ensures some }

pub returns : goal.returns
returns g c =
    let one = not-all c.args.change c.in_default.not-ResolveAll in
    planned c.args.is_heard c.args.model.now c.args.change _ one c.lemma_is_legal.ensures c.requires.asked c.requires.allowed c.requires.read
    (subst (IsRemovalOf (reading c.args.model.now) c.args.change) (sym c.finding.ensures.removal) c.in_ok-removal.ensures)
    (c.finding.ensures.target ∙ c.requires.found)
    (c.finding.ensures.resolved ∙ none-counted (reading c.args.model.now) c.args.change one)
    c.in_ok-edits.ensures.edits
    c.in_ok-edits.ensures.values
    c.in_ok-edits.ensures.chain
