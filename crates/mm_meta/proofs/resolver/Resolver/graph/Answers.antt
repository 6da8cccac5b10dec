use Rattle.std.proofs.Common.{List, ℕ, subst, sym}
use Rattle.mm_graph.specs.Order.{InRange}
use Rattle.mm_meta.proofs.ClassLemmas.{graph_in_range}
use Rattle.mm_meta.proofs.resolver.Resolver.graph.Goals as goal

pub returns-clause-range : goal.returns-clause-range
returns-clause-range c = subst (λ (g : List (List ℕ)). InRange g) (sym c.in_ok-rows.ensures) (graph_in_range c.args.self.now.classes)
