use Rattle.mmrepo_lib.proofs.ReloadLemmas.{reloads}
use Rattle.mmrepo_lib.proofs.laws.what_was_saved_is_had_again_in_any_order.Goals as goal

pub returns : goal.returns
returns c = reloads
