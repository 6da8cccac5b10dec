use Rattle.links.proofs.LegalLemmas.{IsPlanOfKind-append, PlanFits-append, PlanMakesNoCycle-append, links_after_edits-append}
use Rattle.links.proofs.laws.plans_follow_one_another.Goals as goal

pub returns-clause-makes : goal.returns-clause-makes
returns-clause-makes c = λ s xs ys. links_after_edits-append s xs ys

pub returns-clause-fits : goal.returns-clause-fits
returns-clause-fits c = λ s xs ys a b. PlanFits-append s xs ys a b

pub returns-clause-of_kind : goal.returns-clause-of_kind
returns-clause-of_kind c = λ m xs ys a b. IsPlanOfKind-append m xs ys a b

pub returns-clause-no_cycle : goal.returns-clause-no_cycle
returns-clause-no_cycle c = λ s xs ys a b. PlanMakesNoCycle-append s xs ys a b
