use Rattle.mm_meta.proofs.ShapeLemmas.{containing_is_known}
use Rattle.mm_meta.proofs.laws.containers.Goals as goal

pub returns : goal.returns
returns c = containing_is_known
