-- The indexes that are left become fewer.
use Rattle.std.proofs.Common.{◌-◌}
use Rattle.index_guesses.proofs.labels.Labels.search.Given as goal

abbrev pub decreases-loop-span : goal.decreases-loop-span
decreases-loop-span g l = l.span.high - l.span.low
