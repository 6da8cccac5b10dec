use Rattle.std.proofs.Common.{◌≡◌, ◌+◌, ◌++◌, length, vec_capacity, vec_len}
use Rattle.std.specs.Vec.Iter.{into_iter_items}
use Rattle.adapter_list.proofs.leaving.move_all.Given as goal

-- what was moved, and then what is left to move, for which there is capacity
abbrev pub invariant-loop-one : goal.invariant-loop-one
invariant-loop-one l = record {
  can : (goal.iterator-loop-one).can_next l.one-iterator;
  ends : (goal.iterator-loop-one).is_finite l.one-iterator;
  rest : l.into.items ++ into_iter_items l.one-iterator ≡ l.fn.into.items ++ l.fn.from.items;
  count : vec_len l.into + length (into_iter_items l.one-iterator) ≡ vec_len l.fn.into + length l.fn.from.items;
  room : vec_capacity l.into ≡ vec_capacity l.fn.into;
}
