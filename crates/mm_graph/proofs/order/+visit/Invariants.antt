use Rattle.std.proofs.Common.{◌≡◌, ◌<◌, ℕ, get_or, set}
use Rattle.std.specs.List.{count_by}
use Rattle.mm_types.specs.Graph.{by_class}
use Rattle.mm_graph.specs.Visits.{Goes, IsBegun, is_unseen, mark}
use Rattle.mm_graph.specs.declared.order.Mark.TheVariants.{Unseen, Open, Done}
use Rattle.mm_graph.proofs.order.+visit.Given as goal

abbrev pub decreases-visit : goal.decreases-visit
decreases-visit l = count_by is_unseen l.marks.now

abbrev pub invariant-supers : goal.invariant-supers
invariant-supers l = record {
  begun : IsBegun l.graph l.marks l.order.items;
  goes : Goes (set l.fn.marks l.c Open) l.marks;
  unseen : mark l.fn.marks l.c ≡ Unseen;
  visited : (j : ℕ) → j < l.e-index → mark l.marks (get_or (by_class l.graph l.c) j 0) ≡ Done;
}
