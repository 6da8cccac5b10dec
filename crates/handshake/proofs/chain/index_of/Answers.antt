use Rattle.std.proofs.Common.{sym, ◌∙◌}
use Rattle.models.specs.Model.{reading}
use Rattle.handshake.proofs.FeatureChangeLemmas.{site-past}
use Rattle.handshake.proofs.chain.index_of.Goals as goal

pub returns-in-None : goal.returns-in-None
returns-in-None g c = c.len.ensures ∙ site-past ((reading c.args.model.now).values c.args.at) c.args.value.now (sym c.in-None.is ∙ c.position.ensures)
