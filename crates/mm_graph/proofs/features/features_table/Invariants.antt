use Rattle.std.proofs.Common.{◌≡◌, ◌<◌, ℕ, length, get_or}
use Rattle.mm_types.specs.Graph.{by_class}
use Rattle.mm_types.specs.Features.{all_features}
use Rattle.mm_graph.proofs.features.features_table.Given as goal

abbrev pub invariant-empty : goal.invariant-empty
invariant-empty l = length l.rows.items ≡ l._class

abbrev pub invariant-classes : goal.invariant-classes
invariant-classes l = record {
  long : length l.rows.items ≡ length l.graph;
  made : (j : ℕ) → j < l.c-index → by_class l.rows.items (get_or l.order j 0) ≡ all_features l.graph l.own (get_or l.order j 0);
}
