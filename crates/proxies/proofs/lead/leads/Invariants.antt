use Rattle.std.proofs.Common.{◌≡◌, flat_map, map}
use Rattle.std.specs.List.{range_with_len}
use Rattle.models.specs.Model.{reading}
use Rattle.proxies.specs.Leads.{lead}
use Rattle.proxies.specs.Proxies.{sites_of}
use Rattle.proxies.proofs.lead.leads.Given as goal

-- the leads of the objects so far
abbrev pub invariant-objects : goal.invariant-objects
invariant-objects g l =
    let r = reading l.model in
    l.leads.items ≡ map (lead r) (flat_map (λ n. sites_of r (record { 0 = n })) (range_with_len 0 l.object))
