use Rattle.std.proofs.Common.{List, ℕ, subst, sym}
use Rattle.mm_graph.specs.Order.{InRange}
use Rattle.mm_meta.proofs.ClassLemmas.{graph_in_range}
use Rattle.mm_meta.proofs.resolution.Resolution.of.Goals as goal

pub conform_table-requires : goal.conform_table-requires
conform_table-requires c = subst (λ (g : List (List ℕ)). InRange g) (sym c.requires.graph) (graph_in_range c.args.resolver.now.classes)
