use Rattle.std.proofs.Common.{◌≡◌, ◌+◌, ◌++◌, drop, map}
use Rattle.mm_graph.specs.Gathered.{gathered_names}
use Rattle.mm_graph.proofs.clash.gather.Given as goal

abbrev pub invariant-classes : goal.invariant-classes
invariant-classes l = map (λ n. n.now) l.found.items ++ gathered_names (drop l.i l.chosen) (drop l.i l.names) ≡ gathered_names l.chosen l.names

abbrev pub invariant-own : goal.invariant-own
invariant-own l = map (λ n. n.now) l.found.items ++ (drop l.name-index l.name-items ++ gathered_names (drop (l.i + 1) l.chosen) (drop (l.i + 1) l.names)) ≡ gathered_names l.chosen l.names
