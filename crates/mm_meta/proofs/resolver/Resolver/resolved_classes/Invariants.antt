use Rattle.std.proofs.Common.{ℕ, ◌≡◌, ◌≤◌, ◌<◌, ◌++◌, drop, length}
use Rattle.mm_types.specs.Features.{all_features}
use Rattle.mm_types.specs.Graph.{by_class}
use Rattle.mm_types.specs.Resolved.{classes_from, graph_of, own_of}
use Rattle.mm_meta.proofs.resolver.Resolver.resolved_classes.Given as goal

abbrev pub invariant-classes : goal.invariant-classes
invariant-classes l = record {
  made : l.classes ++ classes_from l.self.classes l.c (drop l.c l.self.classes) ≡ classes_from l.self.classes 0 l.self.classes;
  long : length l.all.items ≡ length l.self.classes;
  left : (d : ℕ) → l.c ≤ d → d < length l.self.classes → by_class l.all.items d ≡ all_features (graph_of l.self.classes) (own_of l.self.classes) d;
}
