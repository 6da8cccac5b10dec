-- What resolving a proxy finds: the object at the proxy's address and, if the reference has an opposite, the proxy of the same link at the
-- opposite end.
use Rattle.std.specs.Prelude.{ℕ, ◌&&◌, Bool, false, not, List, Option, is_some, option_and_then, option_map, position, slice_get}
use Rattle.std.specs.Option.{option_map_or}
use Rattle.mm_types.specs.Same.{same_node}
use Rattle.mm_types.specs.declared.end.End.{End}
use Rattle.mm_types.specs.declared.numbers.Node.{Node}
use Rattle.mm_types.specs.declared.numbers.Node.TheVariants as node
use Rattle.mm_types.specs.declared.numbers.ObjectNo.{ObjectNo}
use Rattle.mm_types.specs.declared.value.Value.{Value}
use Rattle.links.specs.Links.{far_end, text_of}
use Rattle.models.specs.Reading.{Reading, shape_at}
use Rattle.fragment_paths.specs.Finding.{at}
use Rattle.proxies.specs.declared.resolved_proxy.Counterpart.{Counterpart}
use Rattle.proxies.specs.declared.resolved_proxy.ResolvedProxy.{ResolvedProxy}

-- the opposite end of a link between the end e and an object; none if the feature of e has no opposite
abbrev pub opposite_end : Reading → End → ObjectNo → Option End
opposite_end r e o = option_map (far_end o) (shape_at r e).opposite

-- the text of the proxy at index i of the end e; none if no proxy is there
abbrev pub proxy_at : Reading → End → ℕ → Option (List ℕ)
proxy_at r e i = option_and_then text_of (slice_get (r.values e) i)

-- whether the value v is a proxy that has the node n at its address
abbrev pub leads_to : Reading → Node → Value → Bool
leads_to r n v = option_map_or (λ o. same_node (node.Object o) n) (option_and_then (at r) (text_of v)) false

-- the first proxy at the end d that has the node n at its address; none if there is no such proxy
abbrev pub first_to : Reading → Node → End → Option Counterpart
first_to r n d = option_map (λ j. record { end = d; index = j }) (position (leads_to r n) (r.values d))

-- at the opposite end of a link between the end e and the object o, the first proxy that has the node of e at its address
abbrev pub counterpart : Reading → End → ObjectNo → Option Counterpart
counterpart r e o = option_and_then (first_to r e.node) (opposite_end r e o)

abbrev pub target : Reading → End → ObjectNo → ResolvedProxy
target r e o = record { object = o; counterpart = counterpart r e o }

-- the target of the proxy at index i of the end e; none if no proxy is there, or no object is at the proxy's address
abbrev pub target_at : Reading → End → ℕ → Option ResolvedProxy
target_at r e i = option_map (target r e) (option_and_then (at r) (proxy_at r e i))

-- whether the reference of a proxy has an opposite, and no proxy at the opposite end has the referring object at its address; e is the end
-- of the proxy, and x is its target
abbrev pub is_unmatched : Reading → End → ResolvedProxy → Bool
is_unmatched r e x = is_some (shape_at r e).opposite && not (is_some x.counterpart)
