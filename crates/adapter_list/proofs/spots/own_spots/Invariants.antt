use Rattle.std.proofs.Common.{◌≡◌, ◌≤◌, ◌++◌, drop, length, map, vec_capacity, vec_len}
use Rattle.adapter_list.proofs.spots.own_spots.Given as goal

abbrev pub invariant-loop-index : goal.invariant-loop-index
invariant-loop-index l = record {
  items : l.spots.items ++ map (λ t. (l.no, t.node)) (drop l.index l.targets.items) ≡ map (λ t. (l.no, t.node)) l.targets.items;
  room : vec_len l.spots ≡ l.index;
  places : length l.targets.items ≤ vec_capacity l.spots;
}
