use Rattle.std.proofs.Common.{◌≡◌, ◌++◌, filter, map}
use Rattle.std.specs.List.{range_with_len}
use Rattle.models.specs.Model.{reading}
use Rattle.proxies.specs.Leads.{lead}
use Rattle.proxies.specs.Proxies.{is_proxy_site, site}
use Rattle.proxies.proofs.lead.push_under.Given as goal

-- the earlier leads, and those of the indices so far
abbrev pub invariant-indices : goal.invariant-indices
invariant-indices g l =
    let r = reading l.model in
    l.leads.items ≡ l.fn.leads.items ++ map (lead r) (filter (is_proxy_site r) (map (site l.object l.feature) (range_with_len 0 l.index)))
