use Rattle.models.specs.Model.{reading}
use Rattle.proxies.proofs.LeadLemmas.{indices-step}
use Rattle.proxies.proofs.lead.push_under.Goals as goal

-- src/lead.rt:66:5
pub indices-preserved : goal.indices-preserved
indices-preserved g c = indices-step (reading c.args.model.now) c.args.object c.args.feature c.indices.index _ _ _ c.in_ok-push_lead.ensures c.indices.invariant
