use Rattle.handshake.proofs.ApartLemmas.{feature_changes-apart, unset-apart}
use Rattle.handshake.proofs.SingleLemmas.{singles-apart}
use Rattle.handshake.specs.declared.change_kind.ChangeKind.TheVariants.{Unsets}
use Rattle.handshake.proofs.laws.a_chain_tells_no_end_twice.Goals as goal

pub returns-clause-single_ends : goal.returns-clause-single_ends
returns-clause-single_ends c = λ s change legal early late. singles-apart s change legal early late

pub returns-clause-ends : goal.returns-clause-ends
returns-clause-ends c = λ s change legal early late few. feature_changes-apart s change legal early late few

pub returns-clause-far_ends : goal.returns-clause-far_ends
returns-clause-far_ends c = λ s e legal early late. unset-apart s e.node e.feature Unsets legal
