use Rattle.std.proofs.Common.{ap, ◌∙◌, ◌∷◌, ◌++◌, [], not, map}
use Rattle.models.specs.Model.{reading}
use Rattle.handshake.specs.declared.change_kind.FeatureChange.{FeatureChange}
use Rattle.handshake.specs.FeatureChange.{notice_at}
use Rattle.handshake.specs.FeatureChanges.{is_replaced, loss}
use Rattle.handshake.proofs.FeatureChangeLemmas.{both-added, filter-two}
use Rattle.handshake.proofs.feature_change.push_both.Goals as goal

pub returns : goal.returns
returns g c =
    let r = reading c.args.model.now in
    let stays = λ (x : FeatureChange). not (is_replaced r c.args.link.end c.args.link.object x.at) in
    both-added (notice_at r) _ _ _ _ _ c.in_ok-push_other_loss.ensures c.in_ok-push_other_loss-2.ensures
    ∙ ap (λ ts. c.args.chain.now ++ map (notice_at r) ts) (filter-two stays (loss c.args.first.now) (loss c.args.second.now))
