-- The links that resolving a proxy cuts.
use Rattle.std.proofs.Common.{◌≡◌, ℕ, List, [], ◌++◌, slice_get, Option, Some, None, option_map, option_to_list, refl, sym, ◌∙◌}
use Rattle.std.specs.Option.{option_map_or}
use Rattle.mm_types.specs.declared.end.End.{End}
use Rattle.mm_types.specs.declared.numbers.ObjectNo.{ObjectNo}
use Rattle.mm_types.specs.declared.value.Value.TheVariants as value
use Rattle.models.specs.Reading.{Reading}
use Rattle.removal.specs.TreeLinkEnds.{link_end}
use Rattle.removal.specs.declared.link_end.LinkEnd.{LinkEnd}
use Rattle.proxies.specs.Resolving.{target_at}
use Rattle.proxies.specs.declared.resolved_proxy.Counterpart.{Counterpart}
use Rattle.proxies.specs.declared.resolved_proxy.ResolvedProxy.{ResolvedProxy}
use Rattle.proxies.proofs.TargetLemmas.{IsFound, IsMatch, found-is, match-is}
use Rattle.handshake.specs.Displaced.{counter_link_end, link_end_in, link_ends_resolved}

-- a property of the link of a proxy, and of the links of both proxies of a link, holds for the links that resolving cuts
pub resolved-cuts : (P : List LinkEnd → Type 0) (r : Reading) (e : End) (i : ℕ) → P (link_end_in r e i)
    → ((o : ObjectNo) (c : Counterpart) (t : List ℕ) → IsMatch r e o c → slice_get (r.values e) i ≡ Some (value.Proxy t) → P (link_end_in r e i ++ link_end_in r c.end c.index)) → P (link_ends_resolved r e i)
resolved-cuts P r e i one two = by (target_at r e i) refl
  where
    none-more : P (link_end_in r e i ++ [])
    none-more = elim (slice_get (r.values e) i) as (λ q. P (option_to_list (option_map (link_end e) q)) → P (option_to_list (option_map (link_end e) q) ++ [])) [ None ↦ λ p. p | Some v ↦ λ p. p ] one

    more : (x : ResolvedProxy) → IsFound r e i x → (q : Option Counterpart) → x.counterpart ≡ q → P (link_end_in r e i ++ option_map_or (λ c. link_end_in r c.end c.index) q [])
    more x is None none = none-more
    more x is (Some c) there = two x.object c is.text (match-is r e x.object c (sym is.matched ∙ there)) is.proxy

    by : (q : Option ResolvedProxy) → target_at r e i ≡ q → P (link_end_in r e i ++ option_map_or (counter_link_end r) q [])
    by None is = none-more
    by (Some x) is = more x (found-is r e i x is) x.counterpart refl
