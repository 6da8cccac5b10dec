use Rattle.models.specs.Model.{reading}
use Rattle.proxies.proofs.LeadLemmas.{objects-step}
use Rattle.proxies.proofs.lead.leads.Goals as goal

-- src/lead.rt:34:5
pub objects-preserved : goal.objects-preserved
objects-preserved g c = objects-step (reading c.args.model.now) c.objects.object _ _ c.in_ok-push_of_object.ensures c.objects.invariant
