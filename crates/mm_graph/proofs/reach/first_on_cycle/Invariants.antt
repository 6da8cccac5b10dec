use Rattle.std.proofs.Common.{ℕ, ◌<◌}
use Rattle.mm_types.specs.Graph.{Reaches}
use Rattle.mm_graph.proofs.reach.first_on_cycle.Given as goal

abbrev pub invariant-classes : goal.invariant-classes
invariant-classes l = (k : ℕ) → k < l.c → Reaches l.graph k k → ⊥
