use Rattle.std.proofs.Common.{◌≡◌, ℕ, ◌+◌, ◌-◌, vec_len}
use Rattle.node_slots.specs.Tables.{row_index_at}
use Rattle.node_slots.proofs.row_table.extend.Given as goal

abbrev pub invariant-loop-places : goal.invariant-loop-places
invariant-loop-places l = (n : ℕ) → row_index_at l.places.items n ≡ row_index_at l.fn.places.items n

abbrev pub decreases-loop-places : goal.decreases-loop-places
decreases-loop-places l = l.number + 1 - vec_len l.places
