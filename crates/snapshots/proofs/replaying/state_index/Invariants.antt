use Rattle.std.proofs.Common.{◌≤◌, ◌-◌, length, take, drop, true, false}
use Rattle.snapshots.proofs.SearchLemmas.{All}
use Rattle.snapshots.proofs.replaying.state_index.Given as goal

abbrev pub invariant-loop-low : goal.invariant-loop-low
invariant-loop-low l = record {
  order : l.low ≤ l.high;
  within : l.high ≤ length l.nodes;
  below : All true l.node (take l.low l.nodes);
  above : All false l.node (drop l.high l.nodes);
}

abbrev pub decreases-loop-low : goal.decreases-loop-low
decreases-loop-low l = l.high - l.low
