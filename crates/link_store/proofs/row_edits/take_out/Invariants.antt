use Rattle.std.proofs.Common.{◌≡◌, ◌≤◌, ◌-◌, ◌++◌, not, take, drop, vec_len, vec_capacity}
use Rattle.std.specs.List.{filter}
use Rattle.links.specs.Indexed.{has_value}
use Rattle.link_store.proofs.row_edits.take_out.Given as goal

abbrev pub invariant-loop-i : goal.invariant-loop-i
invariant-loop-i l = record {
  bound : l.i ≤ vec_len l.rows;
  kept : take l.i l.rows.items ++ filter (λ x. not (has_value l.end l.value x)) (drop l.i l.rows.items) ≡ filter (λ x. not (has_value l.end l.value x)) l.fn.rows.items;
  len : vec_len l.rows ≤ vec_len l.fn.rows;
  capacity : vec_capacity l.rows ≡ vec_capacity l.fn.rows;
}

abbrev pub decreases-loop-i : goal.decreases-loop-i
decreases-loop-i l = vec_len l.rows - l.i
