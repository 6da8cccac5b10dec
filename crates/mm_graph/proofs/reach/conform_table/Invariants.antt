use Rattle.std.proofs.Common.{ℕ, ◌≡◌, ◌<◌, [], get_or, length}
use Rattle.mm_types.specs.Graph.{Conforms}
use Rattle.mm_graph.specs.Sets.{IsSetOf}
use Rattle.mm_graph.proofs.reach.conform_table.Given as goal

abbrev pub invariant-rows : goal.invariant-rows
invariant-rows l = record {
  long : length l.table ≡ l.c;
  wide : (k : ℕ) → k < l.c → length (get_or l.table k []) ≡ length l.graph;
  rows : (k : ℕ) → k < l.c → IsSetOf (Conforms l.graph k) (get_or l.table k []);
}
