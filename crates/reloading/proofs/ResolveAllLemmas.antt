-- All proxies of a partly resolved model, resolved in their order: none is left.
use Rattle.std.proofs.Common.{◌≡◌, ◌∙◌, ℕ, zero, suc, Bool, true, false, List, [], ◌∷◌, Option, Some, None, is_some, length, map, slice_get, if◌then◌else◌, arith, refl, sym, ap, subst}
use Rattle.std.specs.Prelude.{Contains, option_and_then}
use Rattle.std.specs.List.{range_with_len}
use Rattle.std.proofs.lemmas.Bool.{true≢false}
use Rattle.std.proofs.lemmas.Option.{slice_get_within}
use Rattle.mm_types.specs.Conditions.{◌else_by◌}
use Rattle.mm_types.specs.declared.numbers.FeatureNo.{FeatureNo}
use Rattle.mm_types.specs.declared.numbers.Node.TheVariants as node
use Rattle.mm_types.specs.declared.numbers.ObjectNo.{ObjectNo}
use Rattle.mm_types.specs.declared.refused.Refused.{Refused}
use Rattle.mm_types.specs.declared.value.Value.{Value}
use Rattle.mm_types.specs.declared.value.Value.TheVariants as value
use Rattle.mm_values.specs.Values.{ValuesState}
use Rattle.links.specs.Links.{Links, text_of}
use Rattle.models.specs.Legal.{IsLegal}
use Rattle.models.specs.Model.{Model, model_of, reading, values_at}
use Rattle.models.specs.Reading.{Reading, all_features_of, at_end}
use Rattle.doc_loader.proofs.SoundLemmas.{at-map}
use Rattle.round_trip.proofs.ValuesListLemmas.{in-all, is-kept, stands}
use Rattle.handshake.specs.Effects.{model_after}
use Rattle.handshake.specs.OneByOne.{after_each, is_refused, resolve}
use Rattle.proxies.specs.Proxies.{end_of, is_proxy_site, site, sites, sites_of, sites_under}
use Rattle.handshake.specs.Refusals.{early_refusal, late_refusal}
use Rattle.handshake.specs.declared.change.Change.TheVariants.{ResolveAll}
use Rattle.proxies.specs.declared.site.ProxySite.{ProxySite}
use Rattle.handshake.proofs.EachLemmas.{resolves-each}
use Rattle.handshake.proofs.KnownLemmas.{none-else_by, resolvable}
use Rattle.reloading.specs.Between.{Between}
use Rattle.reloading.specs.Laws.{ResolvesAll}
use Rattle.reloading.specs.Proxies.{HasNoProxy, proxies_len}
use Rattle.reloading.proofs.AfterLemmas.{now-legal, proxy-was}
use Rattle.reloading.proofs.AlikeLemmas.{alike-of}
use Rattle.reloading.proofs.LeftLemmas.{at-range, none-left, of-features}
use Rattle.doc_writer.proofs.PlainLemmas.{reference-of}
use Rattle.reloading.proofs.ReloadLemmas.{some-proxy}
use Rattle.reloading.proofs.ResolveLemmas.{left-at, resolves-between, text-at}
use Rattle.reloading.proofs.ResolvedLemmas.{target-is}

---------------------------------------------------------------- locations

-- a proxy of an object of a legal model is at one of its locations
all-places : (t : Model) → IsLegal t → (o : ObjectNo) (f : FeatureNo) (i : ℕ) (z : List ℕ) → slice_get (values_at t (at_end (node.Object o) f)) i ≡ Some (value.Proxy z) → Contains (sites (reading t)) (site o f i)
all-places t legal o f i z at =
    let r = reading t in
    let vs = values_at t (at_end (node.Object o) f) in
    let of = of-features t legal o f i (value.Proxy z) (reference-of t legal (at_end (node.Object o) f) i (value.Proxy z) at refl) at in
    let slot = stands (map (site o f) (range_with_len 0 (length vs))) i (site o f i) (at-map (site o f) (range_with_len 0 (length vs)) i i (at-range (length vs) i (slice_get_within vs i (value.Proxy z) at))) in
    let here = is-kept (is_proxy_site r) (map (site o f) (range_with_len 0 (length vs))) (site o f i) slot (ap (λ (x : Option Value). is_some (option_and_then text_of x)) at) in
    let own = in-all (sites_under r o) (all_features_of r (node.Object o)) of.index f (site o f i) of.own here in
    in-all (λ k. sites_of r (record { 0 = k })) (range_with_len 0 r.next) o.0 o.0 (site o f i) (at-range r.next o.0 of.low) own

-- a location is the first, or one of the rest
data IsFirstOr (p : ProxySite) (ps : List ProxySite) (q : ProxySite) : Type 0 where
  First : q ≡ p → IsFirstOr p ps q
  Rest : Contains ps q → IsFirstOr p ps q

first-or : (p : ProxySite) (ps : List ProxySite) (q : ProxySite) → Contains (p ∷ ps) q → IsFirstOr p ps q
first-or p ps q (zero, low, at) = First (sym at)
first-or p ps q (suc k, low, at) = Rest (k, omega (arith, low), at)

---------------------------------------------------------------- one after another

-- all proxies of objects are at some locations
abbrev AreAt : Model → List ProxySite → Type 0
AreAt t ps = (o : ObjectNo) (f : FeatureNo) (i : ℕ) (z : List ℕ) → slice_get (values_at t (at_end (node.Object o) f)) i ≡ Some (value.Proxy z) → Contains ps (site o f i)

module _ (s : Model) (legal : IsLegal s) (none : HasNoProxy (reading s)) where
  -- the model after these locations were gone through
  record IsSolved (t : Model) (ps : List ProxySite) : Type 0 where
    no_proxy : HasNoProxy (reading (after_each t ps))
    between : Between (reading s) (reading (after_each t ps))

  none-at : (t : Model) (p : ProxySite) → is_proxy_site (reading t) p ≡ false → is_refused t (resolve p) ≡ true
  none-at t p no_proxy = by (early_refusal (reading t) (resolve p) else_by late_refusal (reading t) (resolve p)) refl
    where
      by : (q : Option Refused) → (early_refusal (reading t) (resolve p) else_by late_refusal (reading t) (resolve p)) ≡ q → is_some q ≡ true
      by (Some x) is = refl
      by None is =
          let found = resolvable (reading t) (end_of p) p.index (none-else_by (early_refusal (reading t) (resolve p)) (late_refusal (reading t) (resolve p)) is).1 in
          let proxy = (target-is (reading t) (end_of p) p.index found.target found.is).proxy in
          absurd (true≢false (sym (ap (λ (v : Option Value). is_some (option_and_then text_of v)) proxy) ∙ no_proxy))

  module _ (p : ProxySite) (ps : List ProxySite) (w : ValuesState) (b : Links) (other : IsLegal (model_of s.metamodel w b)) (between : Between (reading s) (reading (model_of s.metamodel w b)))
      (rest : (w : ValuesState) (b : Links) → IsLegal (model_of s.metamodel w b) → Between (reading s) (reading (model_of s.metamodel w b)) → AreAt (model_of s.metamodel w b) ps → IsSolved (model_of s.metamodel w b) ps)
      (at : AreAt (model_of s.metamodel w b) (p ∷ ps)) where
    abbrev t : Model
    t = model_of s.metamodel w b

    abbrev u : Model
    u = model_after t (resolve p)

    moved-on : (refused : Bool) → is_refused t (resolve p) ≡ refused → IsSolved (if refused then t else u) ps → IsSolved t (p ∷ ps)
    moved-on true is so = record {
      no_proxy = subst (λ (c : Bool). HasNoProxy (reading (if c then after_each t ps else after_each u ps))) (sym is) so.no_proxy;
      between = subst (λ (c : Bool). Between (reading s) (reading (if c then after_each t ps else after_each u ps))) (sym is) so.between;
    }
    moved-on false is so = record {
      no_proxy = subst (λ (c : Bool). HasNoProxy (reading (if c then after_each t ps else after_each u ps))) (sym is) so.no_proxy;
      between = subst (λ (c : Bool). Between (reading s) (reading (if c then after_each t ps else after_each u ps))) (sym is) so.between;
    }

    -- a proxy is resolved, and the remaining proxies are at the other locations
    solved : is_proxy_site (reading t) p ≡ true → IsSolved t (p ∷ ps)
    solved there =
        let one = resolves-between s w b legal other none between p.object p.feature p.index there in
        let left = left-at s w b legal other none between p.object p.feature p.index there in
        moved-on false (λ j. is_some (one.early j else_by one.late j))
        (rest u.values u.links (now-legal left) one.between
        (λ q g k z here. let was = proxy-was left (at_end (node.Object q) g) k z here in by q g k was.1 (first-or p ps (site q g k) (at q g k z was.0))))
      where
        by : (q : ObjectNo) (g : FeatureNo) (k : ℕ) → (at_end (node.Object q) g ≡ end_of p → k ≡ p.index → ⊥) → IsFirstOr p ps (site q g k) → Contains ps (site q g k)
        by q g k apart (First same) = absurd (apart (ap end_of same) (ap (λ (y : ProxySite). y.index) same))
        by q g k apart (Rest later) = later

    -- if there is no proxy at a location any more, nothing happens
    passed : is_proxy_site (reading t) p ≡ false → IsSolved t (p ∷ ps)
    passed away = moved-on true (none-at t p away) (rest w b other between (λ q g k z here. by q g k z here (first-or p ps (site q g k) (at q g k z here))))
      where
        by : (q : ObjectNo) (g : FeatureNo) (k : ℕ) (z : List ℕ) → slice_get (values_at t (at_end (node.Object q) g)) k ≡ Some (value.Proxy z) → IsFirstOr p ps (site q g k) → Contains ps (site q g k)
        by q g k z here (First same) =
            absurd (true≢false (sym (ap (is_proxy_site (reading t)) (sym same) ∙ ap (λ (v : Option Value). is_some (option_and_then text_of v)) here) ∙ away))
        by q g k z here (Rest later) = later

    at-place : IsSolved t (p ∷ ps)
    at-place = elim (is_proxy_site (reading t) p) as (λ c. is_proxy_site (reading t) p ≡ c → IsSolved t (p ∷ ps)) [ true ↦ solved | false ↦ passed ] refl

  none-there : (t : Model) → IsLegal t → AreAt t [] → HasNoProxy (reading t)
  none-there t other at = by (proxies_len (reading t)) refl
    where
      by : (n : ℕ) → proxies_len (reading t) ≡ n → HasNoProxy (reading t)
      by zero is = none-left t other is
      by (suc n) is =
          let some = some-proxy (reading t) (omega (arith, is)) in
          let p = some.0 in
          let x = text-at (slice_get (values_at t (end_of p)) p.index) some.1 in
          let c = at p.object p.feature p.index x.0 x.1 in
          let low = c.1 in
          absurd (omega (arith, low))

  all-solved : (ps : List ProxySite) (w : ValuesState) (b : Links) → IsLegal (model_of s.metamodel w b) → Between (reading s) (reading (model_of s.metamodel w b)) → AreAt (model_of s.metamodel w b) ps → IsSolved (model_of s.metamodel w b) ps
  all-solved [] w b other between at = record { no_proxy = none-there (model_of s.metamodel w b) other at; between = between }
  all-solved (p ∷ ps) w b other between at = at-place p ps w b other between (λ v a o m h. all-solved ps v a o m h) at

-- without proxies the count is 0
none-counted : (r : Reading) → HasNoProxy r → proxies_len r ≡ 0
none-counted r none = by (proxies_len r) refl
  where
    by : (n : ℕ) → proxies_len r ≡ n → n ≡ 0
    by zero is = refl
    by (suc n) is =
        let some = some-proxy r (omega (arith, is)) in
        let p = some.0 in
        let x = text-at (slice_get (r.values (end_of p)) p.index) some.1 in
        absurd (none (end_of p) x.0 (stands (r.values (end_of p)) p.index (value.Proxy x.0) x.1))

pub resolves-all : (s : Model) (w : ValuesState) (b : Links) → ResolvesAll s w b
resolves-all s w b legal other none between =
    let t = model_of s.metamodel w b in
    let u = model_after t ResolveAll in
    let each = resolves-each t other in
    let x = all-solved s legal none (sites (reading t)) w b other between (all-places t other) in
    let no_proxy = subst (λ (y : Model). HasNoProxy (reading y)) (sym each.leaves) x.no_proxy in
    let now = subst (λ (y : Model). Between (reading s) (reading y)) (sym each.leaves) x.between in
    record { none = no_proxy; left = each.rest ∙ none-counted (reading u) no_proxy; alike = alike-of (reading s) (reading u) none no_proxy now }
