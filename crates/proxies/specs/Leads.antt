-- The proxies of a model, and the objects at their addresses.
use Rattle.std.specs.Prelude.{ℕ, Bool, false, List, [], ◌∷◌, map, Option, Some, None, option_and_then, if◌then◌else◌}
use Rattle.std.specs.Option.{option_map_or}
use Rattle.indexmap.specs.IndexMap.{get}
use Rattle.models.specs.Reading.{Reading}
use Rattle.fragment_paths.specs.Finding.{at}
use Rattle.models.specs.ReferenceKeys.{reference_key}
pub use Rattle.models.specs.ReferenceKeys.{same_reference_key}
use Rattle.proxies.specs.Proxies.{end_of, sites}
use Rattle.proxies.specs.Resolving.{proxy_at}
use Rattle.models.specs.declared.reference_key.ReferenceKey.{ReferenceKey}
use Rattle.proxies.specs.declared.lead.FirstLeads.{FirstLeads}
use Rattle.proxies.specs.declared.lead.Lead.{Lead}
use Rattle.proxies.specs.declared.site.ProxySite.{ProxySite}

abbrev pub lead : Reading → ProxySite → Lead
lead r p = record { site = p; object = option_and_then (at r) (proxy_at r (end_of p) p.index) }

abbrev pub leads : Reading → List Lead
leads r = map (lead r) (sites r)

-- whether the proxy of a lead is at the reference of a key, and the object at the proxy's address is the object of the key
abbrev pub is_by : ReferenceKey → Lead → Bool
is_by k x = option_map_or (λ o. same_reference_key (reference_key x.site.object x.site.feature o.0) k) x.object false

-- for the first lead of a list that has the key k (`is_by`): the index of its proxy in the proxy's reference. None if no lead of the list
-- has this key
abbrev pub first_index : List Lead → ReferenceKey → Option ℕ
first_index [] k = None
first_index (x ∷ xs) k = if is_by k x then Some x.site.index else first_index xs k

abbrev pub index_at : FirstLeads → ReferenceKey → Option ℕ
index_at t k = get same_reference_key t.indices k
