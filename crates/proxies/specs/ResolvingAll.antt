-- The proxies of a model are resolved one after another. A proxy is skipped if it can't be resolved in the model as it is after the earlier
-- resolves.
use Rattle.std.specs.Prelude.{ℕ, List, [], ◌∷◌, length, slice_set, Option, None, is_some, if◌then◌else◌}
use Rattle.std.specs.Option.{option_map_or}
use Rattle.mm_types.specs.Same.{node_value, same_end}
use Rattle.mm_types.specs.declared.end.End.{End}
use Rattle.mm_types.specs.declared.value.Value.{Value}
use Rattle.mm_types.specs.declared.value.Value.TheVariants as value
use Rattle.models.specs.Reading.{Reading}
use Rattle.proxies.specs.Proxies.{end_of, sites}
use Rattle.proxies.specs.Refusals.{resolve_refusal}
use Rattle.proxies.specs.Resolving.{target_at}
use Rattle.proxies.specs.declared.site.ProxySite.{ProxySite}
use Rattle.proxies.specs.declared.resolved_proxy.ResolvedProxy.{ResolvedProxy}

-- the values of each end after v replaces the value at index i of the end e
abbrev pub ends_after_replace : (End → List Value) → End → ℕ → Value → End → List Value
ends_after_replace ends e i v d = if same_end e d then slice_set (ends d) i v else ends d

-- the values of each end after the proxy at index i of the end e is resolved: the object at the address of the proxy replaces the proxy; if
-- the proxy has a counterpart, the referring object replaces the counterpart at the opposite end. x is the target of the proxy
abbrev pub values_with : Reading → End → ℕ → ResolvedProxy → End → List Value
values_with r e i x =
    ends_after_replace (option_map_or (λ c. ends_after_replace r.values c.end c.index (node_value e.node)) x.counterpart r.values) e i (value.Object x.object)

-- the reading after a proxy is resolved; only the values of ends change
abbrev pub with_resolved : Reading → ProxySite → ResolvedProxy → Reading
with_resolved r p x = record r { values = values_with r (end_of p) p.index x }

-- the target to which the proxy at a location is resolved; none if the resolve is refused
abbrev pub resolved_to : Reading → ProxySite → Option ResolvedProxy
resolved_to r p = if is_some (resolve_refusal r (end_of p) p.index) then None else target_at r (end_of p) p.index

-- one resolve of a proxy: the reading before the resolve, the location of the proxy, and its target
pub record Resolution : Type 0 where
  pub reads : Reading
  pub site : ProxySite
  pub target : ResolvedProxy

-- the resolutions of the proxies at some locations, which are resolved one after another in the order of the locations; there is none for a
-- proxy whose resolve is refused
abbrev pub resolutions : Reading → List ProxySite → List Resolution
resolutions r [] = []
resolutions r (p ∷ ps) =
    option_map_or (λ x. record { reads = r; site = p; target = x } ∷ resolutions (with_resolved r p x) ps) (resolved_to r p) (resolutions r ps)

-- the values of each end after the proxies at some locations are resolved, one after another, as far as they can be
abbrev pub values_left : Reading → List ProxySite → End → List Value
values_left r [] = r.values
values_left r (p ∷ ps) = option_map_or (λ x. values_left (with_resolved r p x) ps) (resolved_to r p) (values_left r ps)

-- the reading after the proxies at some locations are resolved, as far as they can be
abbrev pub left_by : Reading → List ProxySite → Reading
left_by r ps = record r { values = values_left r ps }

-- the reading after all proxies of a model are resolved, as far as they can be
abbrev pub all_resolved : Reading → Reading
all_resolved r = left_by r (sites r)

-- how many proxies are resolved if all are to be resolved; two proxies of one link count as one. And `unresolved_count`: how many proxies
-- remain, counting each
abbrev pub resolved_count : Reading → ℕ
resolved_count r = length (resolutions r (sites r))

abbrev pub unresolved_count : Reading → ℕ
unresolved_count r = length (sites (all_resolved r))
