use Rattle.std.proofs.Common.{◌≡◌, ◌++◌, flat_map, map, take}
use Rattle.models.specs.Model.{reading}
use Rattle.proxies.specs.Leads.{lead}
use Rattle.proxies.specs.Proxies.{sites_under}
use Rattle.proxies.proofs.lead.push_of_object.Given as goal

-- the earlier leads, and those of the features so far
abbrev pub invariant-features : goal.invariant-features
invariant-features g l =
    let r = reading l.model in
    l.leads.items ≡ l.fn.leads.items ++ map (lead r) (flat_map (sites_under r l.object) (take l.feature-index l.features))
