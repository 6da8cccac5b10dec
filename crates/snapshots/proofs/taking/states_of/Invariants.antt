use Rattle.std.proofs.Common.{◌≡◌, ◌++◌, drop, map}
use Rattle.models.specs.Model.{reading}
use Rattle.snapshots.specs.Snapshots.{live_states, node_state, own_resource}
use Rattle.snapshots.proofs.taking.states_of.Given as goal

abbrev pub invariant-loop-object : goal.invariant-loop-object
invariant-loop-object g l =
    let r = reading l.model in l.out.items ++ live_states r (drop l.object-index l.objects) ≡ map (node_state r) (own_resource r l.fn.target) ++ live_states r l.objects
