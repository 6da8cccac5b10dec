use Rattle.std.proofs.Common.{rules}
use Rattle.mm_values.proofs.counting.uris_added.Goals as goal

pub returns : goal.returns
returns c = search rules
