use Rattle.mm_meta.proofs.ShapeLemmas.{opposites_are_pairs}
use Rattle.mm_meta.proofs.laws.opposites.Goals as goal

pub returns-clause-pairs : goal.returns-clause-pairs
returns-clause-pairs c = opposites_are_pairs
