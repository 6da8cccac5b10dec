use Rattle.std.proofs.Common.{◌∙◌, List, ℕ, ap, length, subst, sym}
use Rattle.mm_types.specs.Graph.{Reaches}
use Rattle.mm_types.specs.declared.meta_fault.Condition.TheVariants.{Cycle}
use Rattle.mm_types.specs.declared.meta_fault.Place.TheVariants.{Class}
use Rattle.mm_graph.specs.Order.{HasCycle, InRange}
use Rattle.mm_meta.proofs.ClassLemmas.{graph_in_range, length-own_from, long_graph}
use Rattle.mm_meta.proofs.resolution.all_features.Goals as goal

pub order_of-requires : goal.order_of-requires
order_of-requires c = subst (λ (g : List (List ℕ)). InRange g) (sym c.requires.graph) (graph_in_range c.args.resolver.now.classes)

pub features_table-requires-clause-graph : goal.features_table-requires-clause-graph
features_table-requires-clause-graph c = subst (λ (g : List (List ℕ)). InRange g) (sym c.requires.graph) (graph_in_range c.args.resolver.now.classes)

pub features_table-requires-clause-own : goal.features_table-requires-clause-own
features_table-requires-clause-own c =
    let classes = c.args.resolver.now.classes in
    ap length c.own.ensures.value ∙ (length-own_from 0 classes ∙ sym (long_graph classes c.args.graph.now c.requires.graph))

pub unreachable-requires : goal.unreachable-requires
unreachable-requires c =
    let cycle : HasCycle c.args.graph.now = rw c.in-None.is at c.in_ok-order.ensures in
    c.requires.well_formed Cycle (Class cycle.0) (subst (λ (g : List (List ℕ)). Reaches g cycle.0 cycle.0) c.requires.graph cycle.1)
