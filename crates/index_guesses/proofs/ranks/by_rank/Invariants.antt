use Rattle.std.proofs.Common.{◌-◌}
use Rattle.index_guesses.proofs.ranks.by_rank.Given as goal

abbrev pub decreases-loop-low : goal.decreases-loop-low
decreases-loop-low g l = l.high - l.low
