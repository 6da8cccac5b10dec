use Rattle.links.proofs.CutNamedLemmas.{cuts_fit, cuts_of_kind, cuts_without_cycle, links_after_edits-cut_edits}
use Rattle.links.proofs.laws.a_plan_of_cuts_fits.Goals as goal

pub returns-clause-fits : goal.returns-clause-fits
returns-clause-fits c = λ m ok s ts legal kinds there once. cuts_fit m ok s ts legal kinds there once

pub returns-clause-makes : goal.returns-clause-makes
returns-clause-makes c = λ m ok s ts legal kinds there once. links_after_edits-cut_edits m ok s ts legal kinds there once

pub returns-clause-of_kind : goal.returns-clause-of_kind
returns-clause-of_kind c = λ m ts. cuts_of_kind m ts

pub returns-clause-no_cycle : goal.returns-clause-no_cycle
returns-clause-no_cycle c = λ s ts. cuts_without_cycle s ts
