-- Resolving all proxies of a legal model does the same as resolving one after another.
use Rattle.std.proofs.Common.{◌≡◌, ◌∙◌, suc, Bool, true, false, List, [], ◌∷◌, ◌++◌, flat_map, fold, length, Option, Some, None, is_some, if◌then◌else◌, refl, sym, ap, subst}
use Rattle.std.specs.Option.{option_map_or}
use Rattle.std.proofs.lemmas.Option.{none-some}
use Rattle.mm_types.specs.Conditions.{◌else_by◌}
use Rattle.mm_types.specs.declared.end.End.{End}
use Rattle.mm_types.specs.declared.refused.Refused.{Refused}
use Rattle.notice_chain.specs.declared.notice.Notice.{Notice}
use Rattle.models.specs.Legal.{IsLegal}
use Rattle.models.specs.Model.{Model, reading}
use Rattle.models.specs.Reading.{Reading, held_at}
use Rattle.handshake.specs.Effects.{links_after_join, model_after, with_resolution, without_link_ends}
use Rattle.handshake.specs.OneByOne.{ResolvesEach, after_each, count_of_each, is_refused, resolve, told_by_each}
use Rattle.proxies.specs.Proxies.{end_of, sites}
use Rattle.handshake.specs.Refusals.{early_refusal}
use Rattle.proxies.specs.Refusals.{resolve_refusal}
use Rattle.proxies.specs.Resolving.{target_at}
use Rattle.proxies.specs.ResolvingAll.{Resolution, resolutions, resolved_to, with_resolved}
use Rattle.handshake.specs.FeatureChange.{change_notices, ends_after_changes}
use Rattle.handshake.specs.FeatureChanges.{chain, changes_of_resolve, resolution_told}
use Rattle.proxies.specs.declared.site.ProxySite.{ProxySite}
use Rattle.proxies.specs.declared.resolved_proxy.ResolvedProxy.{ResolvedProxy}
use Rattle.handshake.proofs.ApartLemmas.{change_notices-append}
use Rattle.handshake.proofs.HappenedLemmas.{ends_after_changes-at}
use Rattle.handshake.proofs.KnownLemmas.{resolvable}
use Rattle.handshake.proofs.ResolveAllLemmas.{all-lead, cut, early, one-resolved, resolved-to}
use Rattle.handshake.proofs.ResolvedReadingLemmas.{with_links}

-- a proxy that is not resolved is refused
refused-late : (r : Reading) (p : ProxySite) → resolved_to r p ≡ None → is_some (resolve_refusal r (end_of p) p.index) ≡ true
refused-late r p none = by (resolve_refusal r (end_of p) p.index) refl none
  where
    by : (q : Option Refused) → resolve_refusal r (end_of p) p.index ≡ q → (if is_some q then None else target_at r (end_of p) p.index) ≡ None → is_some q ≡ true
    by (Some x) is h = refl
    by None is h = let found = resolvable r (end_of p) p.index is in absurd (none-some found.target (sym h ∙ found.is))

refused-so : (a b : Option Refused) → is_some b ≡ true → is_some (a else_by b) ≡ true
refused-so None b h = h
refused-so (Some x) b h = refl

module _ (s : Model) (legal : IsLegal s) (p : ProxySite) (x : ResolvedProxy) (is : resolved_to (reading s) p ≡ Some x) where
  abbrev r : Reading
  r = reading s

  abbrev e : End
  e = end_of p

  allowed : is_refused s (resolve p) ≡ false
  allowed =
      let of = resolved-to r p x is in
      λ i. is_some (early s legal p x of.late of.found i else_by of.late i)

  model_after-one : model_after s (resolve p) ≡ with_links s (with_resolution s.links (record { reads = reading s; site = p; target = x }))
  model_after-one =
      let of = resolved-to r p x is in
      let reference = (resolvable r e p.index of.late).resolvable.reference in
      λ i. with_links s (let t = without_link_ends s.links (cut r p (reference i) (of.found i)) in option_map_or (links_after_join t r e p.index) (of.found i) t)

  chain-one : change_notices s.metamodel (held_at r) (resolution_told (record { reads = reading s; site = p; target = x })) ≡ chain r (resolve p)
  chain-one = let of = resolved-to r p x is in sym (ap (λ (q : Option ResolvedProxy). change_notices s.metamodel (held_at r) (option_map_or (changes_of_resolve e p.index) q [])) of.found)

-- resolving all locations gives the same as resolving each in turn
record IsEach (s : Model) (ps : List ProxySite) (xs : List Resolution) : Type 0 where
  pub leaves : with_links s (fold with_resolution s.links xs) ≡ after_each s ps
  pub tells : change_notices s.metamodel (held_at (reading s)) (flat_map resolution_told xs) ≡ told_by_each s ps
  pub counts : length xs ≡ count_of_each s ps

all-each : (ps : List ProxySite) (s : Model) → IsLegal s → IsEach s ps (resolutions (reading s) ps)
all-each [] s legal = record { leaves = refl; tells = refl; counts = refl }
all-each (p ∷ ps) s legal =
    let r = reading s in
    let m = s.metamodel in
    let c = resolve p in
    let ys : Option ResolvedProxy → List Resolution = λ q. option_map_or (λ x. record { reads = r; site = p; target = x } ∷ resolutions (with_resolved r p x) ps) q (resolutions r ps) in
    elim (resolved_to r p) as (λ q. resolved_to r p ≡ q → IsEach s (p ∷ ps) (ys q)) [
      | None ↦ λ none.
          let refused = refused-so (early_refusal r c) _ (refused-late r p none) in
          let rest = all-each ps s legal in
          record {
            leaves = rest.leaves ∙ sym (ap (λ (b : Bool). if b then after_each s ps else after_each (model_after s c) ps) refused);
            tells = rest.tells ∙ sym (ap (λ (b : Bool). if b then told_by_each s ps else chain r c ++ told_by_each (model_after s c) ps) refused);
            counts = rest.counts ∙ sym (ap (λ (b : Bool). if b then count_of_each s ps else suc (count_of_each (model_after s c) ps)) refused);
          }
      | Some x ↦ λ is.
          let of = resolved-to r p x is in
          let y : Resolution = record { reads = r; site = p; target = x } in
          let one = one-resolved s legal p x of.late of.found in
          let t = with_links s (with_resolution s.links y) in
          let rest = subst (λ (z : Reading). IsEach t ps (resolutions z ps)) one.reads (all-each ps t one.legal) in
          let ts = resolution_told y in
          let us = flat_map resolution_told (resolutions (with_resolved r p x) ps) in
          let ends : ends_after_changes m (held_at r) ts ≡ held_at (reading t) = λ i d. (ends_after_changes-at m (held_at r) ts d ∙ one.replays d) i in
          let allowed_here = allowed s legal p x is in
          let same = model_after-one s legal p x is in
          record {
            leaves = rest.leaves ∙ sym (ap (λ (b : Bool). if b then after_each s ps else after_each (model_after s c) ps) allowed_here ∙ ap (λ (z : Model). after_each z ps) same);
            tells =
                change_notices-append m (held_at r) ts us
                ∙ (λ i. chain-one s legal p x is i ++ change_notices m (ends i) us)
                ∙ ap (λ (ns : List Notice). chain r c ++ ns) rest.tells
                ∙ sym (ap (λ (b : Bool). if b then told_by_each s ps else chain r c ++ told_by_each (model_after s c) ps) allowed_here ∙ ap (λ (z : Model). chain r c ++ told_by_each z ps) same);
            counts =
                ap suc rest.counts
                ∙ sym (ap (λ (b : Bool). if b then count_of_each s ps else suc (count_of_each (model_after s c) ps)) allowed_here ∙ ap (λ (z : Model). suc (count_of_each z ps)) same);
          }
    ] refl

pub resolves-each : (s : Model) → IsLegal s → ResolvesEach s
resolves-each s legal =
    let ps = sites (reading s) in
    let each = all-each ps s legal in
    let on = all-lead ps s legal in
    record { leaves = each.leaves; tells = each.tells; counts = each.counts; rest = sym (ap (λ (z : Reading). length (sites z)) on.reads) }
