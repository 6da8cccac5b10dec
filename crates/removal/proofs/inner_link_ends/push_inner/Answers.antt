use Rattle.models.specs.Model.{reading}
use Rattle.removal.specs.Ranks.{is_in}
use Rattle.removal.specs.TreeLinkEnds.{node_link_ends}
use Rattle.removal.proofs.PushLemmas.{flat-end, flat-step}
use Rattle.removal.proofs.inner_link_ends.push_inner.Goals as goal

pub loop-object-preserved : goal.loop-object-preserved
loop-object-preserved g c =
    flat-step (node_link_ends (reading c.args.model.now) (is_in c.args.numbers.now)) c.args.objects.now c.loop-object.object-index _ c.loop-object.link_ends.items c.push_node.new.link_ends.items _ c.loop-object-test.true c.in_ok-push_node.ensures c.loop-object.invariant

pub returns : goal.returns
returns g c =
    flat-end (node_link_ends (reading c.args.model.now) (is_in c.args.numbers.now)) c.args.objects.now c.loop-object.object-index c.loop-object.link_ends.items _ c.loop-object-test.false c.loop-object.invariant
