-- Why a proxy can't be resolved.
use Rattle.std.specs.Prelude.{ℕ, ◌||◌, Bool, false, not, length, nat_lt, Option, is_some}
use Rattle.std.specs.Option.{option_map_or}
use Rattle.mm_types.specs.Conditions.{◌unless◌, ◌where_so◌, ◌else_by◌}
use Rattle.mm_types.specs.Ends.{has_value}
use Rattle.mm_types.specs.declared.end.End.{End}
use Rattle.mm_types.specs.declared.refused.Refused.{Refused}
use Rattle.mm_types.specs.declared.refused.Refused.TheVariants.{WrongType, Index, Duplicate, NotProxy, Unloaded, Unresolved, Unmatched}
use Rattle.mm_types.specs.declared.value.Value.TheVariants as value
use Rattle.web_uris.specs.Addresses.{uri_part}
use Rattle.models.specs.Reading.{Reading, has_uri, shape_at, takes}
use Rattle.proxies.specs.Resolving.{is_unmatched, proxy_at, target_at}
use Rattle.proxies.specs.declared.resolved_proxy.ResolvedProxy.{ResolvedProxy}

-- whether the feature of an end is an attribute, or the object at a proxy's address is not of the feature's type
abbrev pub is_mistyped : Reading → End → Option ResolvedProxy → Bool
is_mistyped r e q = not (shape_at r e).is_reference || option_map_or (λ x. not (takes r e.feature (value.Object x.object))) q false

-- whether the end of a proxy already has the object at the proxy's address as a value
abbrev pub is_there_already : Reading → End → Option ResolvedProxy → Bool
is_there_already r e q = option_map_or (λ x. has_value (r.values e) (value.Object x.object)) q false

-- why the proxy at index i of the end e can't be resolved; q is the target of the proxy, if it has one. None if the proxy can be resolved
abbrev pub target_refusal : Reading → End → ℕ → Option ResolvedProxy → Option Refused
target_refusal r e i q =
    WrongType where_so is_mistyped r e q else_by
    Index unless nat_lt i (length (r.values e)) else_by
    Duplicate where_so is_there_already r e q else_by
    NotProxy unless is_some (proxy_at r e i) else_by
    Unloaded where_so option_map_or (λ t. not (has_uri r (uri_part t))) (proxy_at r e i) false else_by
    Unresolved unless is_some q else_by
    Unmatched where_so option_map_or (is_unmatched r e) q false

abbrev pub resolve_refusal : Reading → End → ℕ → Option Refused
resolve_refusal r e i = target_refusal r e i (target_at r e i)
