use Rattle.std.proofs.Common.{◌++◌, List, map, ap, ◌∙◌}
use Rattle.models.specs.Model.{reading}
use Rattle.snapshots.specs.Snapshots.{live_states, node_state, own_resource}
use Rattle.snapshots.specs.declared.snapshot.NodeState.{NodeState}
use Rattle.snapshots.proofs.TakenLemmas.{live-end, live-step}
use Rattle.snapshots.proofs.taking.states_of.Goals as goal

pub loop-object-init : goal.loop-object-init
loop-object-init g c =
    let r = reading c.args.model.now in
    ap (λ (xs : List NodeState). xs ++ live_states r c.args.objects.now)
    (c.in_ok-push_resource.ensures ∙ ap (λ (xs : List NodeState). xs ++ map (node_state r) (own_resource r c.args.target)) c.in_ok-out.ensures.items)

pub loop-object-preserved : goal.loop-object-preserved
loop-object-preserved g c =
    live-step (reading c.args.model.now) c.args.objects.now c.loop-object.object-index _ _ _ _ c.loop-object-test.true c.in_ok-push_object.ensures c.loop-object.invariant

pub returns : goal.returns
returns g c = live-end (reading c.args.model.now) c.args.objects.now c.loop-object.object-index _ _ c.loop-object-test.false c.loop-object.invariant
