-- The locations of proxies, in the order in which all proxies are resolved (EMF: EcoreUtil.resolveAll).
use Rattle.std.specs.Prelude.{ℕ, Bool, List, filter, flat_map, is_some, length, map}
use Rattle.std.specs.List.{range_with_len}
use Rattle.mm_types.specs.declared.end.End.{End}
use Rattle.mm_types.specs.declared.numbers.FeatureNo.{FeatureNo}
use Rattle.mm_types.specs.declared.numbers.ObjectNo.{ObjectNo}
use Rattle.mm_types.specs.declared.numbers.Node.TheVariants as node
use Rattle.models.specs.Reading.{Reading, all_features_of, at_end}
use Rattle.proxies.specs.Resolving.{proxy_at}
use Rattle.proxies.specs.declared.site.ProxySite.{ProxySite}

abbrev pub site : ObjectNo → FeatureNo → ℕ → ProxySite
site o f i = record { object = o; feature = f; index = i }

-- the end of a location
abbrev pub end_of : ProxySite → End
end_of p = at_end (node.Object p.object) p.feature

-- whether a proxy is at a location
abbrev pub is_proxy_site : Reading → ProxySite → Bool
is_proxy_site r p = is_some (proxy_at r (end_of p) p.index)

-- the locations of proxies at a feature of an object, in the order of their indexes
abbrev pub sites_under : Reading → ObjectNo → FeatureNo → List ProxySite
sites_under r o f = filter (is_proxy_site r) (map (site o f) (range_with_len 0 (length (r.values (at_end (node.Object o) f)))))

-- the locations of proxies at all features of an object, in the order of these features
abbrev pub sites_of : Reading → ObjectNo → List ProxySite
sites_of r o = flat_map (sites_under r o) (all_features_of r (node.Object o))

-- the locations of proxies at all objects, in the order of the numbers of the objects
abbrev pub sites : Reading → List ProxySite
sites r = flat_map (λ n. sites_of r (record { 0 = n })) (range_with_len 0 r.next)
