use Rattle.std.proofs.Common.{◌∙◌}
use Rattle.models.specs.Model.{reading}
use Rattle.removal.proofs.OuterLemmas.{touched-reference}
use Rattle.removal.proofs.loss.losses.Goals as goal

pub push_lost-requires-clause-reference : goal.push_lost-requires-clause-reference
push_lost-requires-clause-reference g c =
    touched-reference (reading c.args.model.now) c.args.removal.now.object c.deref-end-items.result.now c.loop-end.end-index _ (c.deref-end-items.ensures.value ∙ c.requires.removal.ends) c.loop-end-test.true
