use Rattle.std.proofs.Common.{◌≡◌, ◌<◌, ℕ}
use Rattle.mm_graph.specs.Visits.{IsBegun, mark}
use Rattle.mm_graph.specs.declared.order.Mark.TheVariants.{Open, Done}
use Rattle.mm_graph.proofs.order.order_of.Given as goal

abbrev pub invariant-classes : goal.invariant-classes
invariant-classes l = record {
  begun : IsBegun l.graph l.marks.items l.order.items;
  none_open : (k : ℕ) → mark l.marks.items k ≡ Open → ⊥;
  visited : (j : ℕ) → j < l.c → mark l.marks.items j ≡ Done;
}
