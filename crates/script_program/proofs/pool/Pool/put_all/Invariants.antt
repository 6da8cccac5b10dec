use Rattle.std.proofs.Common.{◌≡◌, map}
use Rattle.std.specs.Prelude.{fold}
use Rattle.std.specs.Vec.Iter.{into_iter_items}
use Rattle.script_program.specs.Pool.{with_box}
use Rattle.script_program.proofs.pool.Pool.put_all.Given as goal

abbrev pub invariant-released : goal.invariant-released
invariant-released g l =
    (goal.iterator-released g).can_next l.no-iterator ×
    (goal.iterator-released g).is_finite l.no-iterator ×
    (fold with_box l.self (map (λ b. (b.0, g.A.Adapter.heard b.1)) (into_iter_items l.no-iterator)) ≡ fold with_box l.initial.self (map (λ b. (b.0, g.A.Adapter.heard b.1)) l.fn.released.items))
