use Rattle.repository.proofs.LegalLemmas.{step-legal}
use Rattle.mmrepo_lib.proofs.laws.keeps_legal.Goals as goal

pub returns : goal.returns
returns c = step-legal
