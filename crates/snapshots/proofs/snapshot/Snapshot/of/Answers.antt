use Rattle.std.proofs.Common.{List, map, ◌++◌, ap, sym, subst, ◌∙◌}
use Rattle.mm_types.specs.declared.numbers.ObjectNo.{ObjectNo}
use Rattle.models.specs.Model.{reading}
use Rattle.snapshots.specs.Order.{AreInOrder}
use Rattle.snapshots.specs.Snapshots.{live_states, node_state, own_resource}
use Rattle.snapshots.proofs.OrderLemmas.{snapshot-ordered}
use Rattle.snapshots.proofs.TakenLemmas.{taken}
use Rattle.snapshots.proofs.snapshot.Snapshot.of.Goals as goal

pub from_vec-requires : goal.from_vec-requires
from_vec-requires g c =
    let s = c.args.model.now in
    let is = taken s c.lemma_is_legal.ensures c.args.target c.in_ok-objects.objects.items c.in_ok-nodes.nodes.items c.in_ok-objects.ensures (c.in_ok-nodes.ensures ∙ ap (λ (os : List ObjectNo). map (node_state (reading s)) (own_resource (reading s) c.args.target) ++ live_states (reading s) os) c.as_slice.ensures.value) in
    record { in_order = subst AreInOrder (sym is) (snapshot-ordered (reading s) c.args.target) }

pub returns : goal.returns
returns g c =
    let s = c.args.model.now in
    c.from_vec.ensures ∙ taken s c.lemma_is_legal.ensures c.args.target c.in_ok-objects.objects.items c.in_ok-nodes.nodes.items c.in_ok-objects.ensures (c.in_ok-nodes.ensures ∙ ap (λ (os : List ObjectNo). map (node_state (reading s)) (own_resource (reading s) c.args.target) ++ live_states (reading s) os) c.as_slice.ensures.value)
