use Rattle.links.proofs.LegalLemmas.{none_legal, none_kinds}
use Rattle.links.proofs.CycleLemmas.{none_no_cycle}
use Rattle.links.proofs.laws.no_links_are_legal.Goals as goal

pub returns-clause-legal : goal.returns-clause-legal
returns-clause-legal c = none_legal

pub returns-clause-kinds : goal.returns-clause-kinds
returns-clause-kinds c = λ m. none_kinds m

pub returns-clause-no_cycle : goal.returns-clause-no_cycle
returns-clause-no_cycle c = none_no_cycle
