use Rattle.std.proofs.Common.{◌≡◌, take}
use Rattle.proxies.specs.Leads.{first_index, index_at}
use Rattle.models.specs.declared.reference_key.ReferenceKey.{ReferenceKey}
use Rattle.proxies.proofs.lead.FirstLeads.of.Given as goal

-- the first of the leads so far
abbrev pub invariant-leads : goal.invariant-leads
invariant-leads l = (k : ReferenceKey) → index_at l.first k ≡ first_index (take l.lead-index l.leads) k
