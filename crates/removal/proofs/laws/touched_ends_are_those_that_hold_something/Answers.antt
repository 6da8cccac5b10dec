use Rattle.removal.proofs.OuterLemmas.{touched-all, touched-in_order}
use Rattle.removal.proofs.laws.touched_ends_are_those_that_hold_something.Goals as goal

pub returns-clause-order : goal.returns-clause-order
returns-clause-order c = touched-in_order

pub returns-clause-all : goal.returns-clause-all
returns-clause-all c = touched-all
