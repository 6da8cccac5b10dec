use Rattle.proxies.proofs.LeadLemmas.{first-step}
use Rattle.proxies.proofs.lead.FirstLeads.of.Goals as goal

-- src/lead.rt:119:9
pub leads-preserved : goal.leads-preserved
leads-preserved c = λ k. first-step c.args.leads.now c.leads.lead-index _ k _ _ c.leads-test.true (c.in_ok-add.ensures k) (c.leads.invariant k)
