use Rattle.std.proofs.Common.{rules}
use Rattle.mm_values.proofs.counting.objects_made.Goals as goal

pub returns : goal.returns
returns c = search rules
