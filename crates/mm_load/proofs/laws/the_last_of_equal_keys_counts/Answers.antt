use Rattle.mm_load.proofs.KeyLemmas.{last_counts}
use Rattle.mm_load.proofs.laws.the_last_of_equal_keys_counts.Goals as goal

pub returns : goal.returns
returns c = last_counts
