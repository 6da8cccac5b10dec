use Rattle.models.specs.Model.{reading}
use Rattle.removal.specs.Ranks.{is_in}
use Rattle.removal.proofs.PushLemmas.{node-end}
use Rattle.removal.proofs.inner_link_ends.push_node.Goals as goal

pub returns : goal.returns
returns g c =
    node-end (reading c.args.model.now) (is_in c.args.numbers.now) c.args.object c.all_features-features.result.now c.loop-feature.feature-index c.loop-feature.link_ends.items c.args.link_ends.now.items
    c.all_features-features.ensures c.loop-feature-test.false c.loop-feature.invariant
