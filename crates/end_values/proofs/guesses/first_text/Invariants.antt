use Rattle.std.proofs.Common.{◌-◌}
use Rattle.end_values.proofs.guesses.first_text.Given as goal

abbrev pub decreases-loop-low : goal.decreases-loop-low
decreases-loop-low l = l.high - l.low
