use Rattle.mmrepo_lib.proofs.HeardLemmas.{hears-reply}
use Rattle.mmrepo_lib.proofs.laws.an_adapter_hears_what_the_reply_tells_it.Goals as goal

pub returns : goal.returns
returns c = hears-reply
