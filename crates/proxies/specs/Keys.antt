-- Sets of keys, and the keys of locations of proxies.
use Rattle.std.specs.Prelude.{Bool}
use Rattle.std.specs.List.{list_any}
use Rattle.models.specs.ReferenceKeys.{reference_key, same_reference_key}
use Rattle.models.specs.declared.reference_key.ReferenceKey.{ReferenceKey}
use Rattle.proxies.specs.declared.keys.Keys.{Keys}
use Rattle.proxies.specs.declared.site.ProxySite.{ProxySite}

abbrev pub key_of : ProxySite → ReferenceKey
key_of p = reference_key p.object p.feature p.index

abbrev pub has : Keys → ReferenceKey → Bool
has s k = list_any (same_reference_key k) s.set.keys
