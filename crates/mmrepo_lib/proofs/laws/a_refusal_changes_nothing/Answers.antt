use Rattle.repository.proofs.RunLemmas.{refused-nothing}
use Rattle.mmrepo_lib.proofs.laws.a_refusal_changes_nothing.Goals as goal

pub returns-clause-unchanged : goal.returns-clause-unchanged
returns-clause-unchanged c s t d f x = (refused-nothing s t d f x).0

pub returns-clause-given_back : goal.returns-clause-given_back
returns-clause-given_back c s t d f x = (refused-nothing s t d f x).1
