use Rattle.repository.proofs.AloneLemmas.{alone_too, comes_back, keeps_model}
use Rattle.mmrepo_lib.proofs.laws.adapters_have_no_part.Goals as goal

pub returns-clause-alone : goal.returns-clause-alone
returns-clause-alone c s d = alone_too s d

pub returns-clause-kept : goal.returns-clause-kept
returns-clause-kept c s d = keeps_model s d

pub returns-clause-again : goal.returns-clause-again
returns-clause-again c s t d r = comes_back s d r t
