use Rattle.std.proofs.Common.{◌≡◌, ◌≤◌, ◌+◌, ◌++◌, length, map, vec_len, vec_capacity, Some, option_map}
use Rattle.std.specs.Vec.Iter.{into_iter_items}
use Rattle.script_program.proofs.pool.Pool.new.Given as goal

abbrev pub invariant-boxes : goal.invariant-boxes
invariant-boxes g l =
    (goal.iterator-boxes g).can_next l.adapter-iterator ×
    (goal.iterator-boxes g).is_finite l.adapter-iterator ×
    (vec_len l.slots + length (into_iter_items l.adapter-iterator) ≤ vec_capacity l.slots) ×
    (map (λ o. option_map g.A.Adapter.heard o) l.slots.items ≡ map (λ a. Some (g.A.Adapter.heard a)) l.yielded) ×
    (l.yielded ++ into_iter_items l.adapter-iterator ≡ l.fn.boxes.items)
