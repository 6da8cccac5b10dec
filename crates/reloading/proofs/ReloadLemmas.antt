-- Resolves, one after another, until no proxy is left: none is refused, there are resolves that lead to the end, and the resulting model is
-- isomorphic.
use Rattle.std.proofs.Common.{◌≡◌, ℕ, zero, suc, ◌+◌, ◌<◌, Bool, true, false, List, [], ◌∷◌, Option, Some, None, is_some, length, map, slice_get, if◌then◌else◌, arith, refl, sym}
use Rattle.std.specs.List.{range_with_len}
use Rattle.std.proofs.lemmas.Option.{none-some}
use Rattle.mm_types.specs.Shapes.{shape}
use Rattle.mm_types.specs.declared.numbers.FeatureNo.{FeatureNo}
use Rattle.mm_types.specs.declared.numbers.Node.{Node}
use Rattle.mm_types.specs.declared.numbers.Node.TheVariants as node
use Rattle.mm_types.specs.declared.numbers.ObjectNo.{ObjectNo}
use Rattle.mm_values.specs.Values.{ValuesState}
use Rattle.links.specs.Links.{Links}
use Rattle.models.specs.Legal.{IsLegal}
use Rattle.models.specs.Model.{Model, model_of, reading}
use Rattle.models.specs.Reading.{Reading, all_features_of, at_end}
use Rattle.doc_loader.proofs.SoundLemmas.{flat_map-at}
use Rattle.round_trip.proofs.ValuesListLemmas.{passes-kept, stands}
use Rattle.handshake.specs.Effects.{model_after}
use Rattle.proxies.specs.Proxies.{is_proxy_site, site, sites, sites_of, sites_under}
use Rattle.handshake.specs.declared.change.Change.{Change}
use Rattle.handshake.specs.declared.change.Change.TheVariants.{At}
use Rattle.handshake.specs.declared.act.Act.TheVariants.{Resolve}
use Rattle.proxies.specs.declared.site.ProxySite.{ProxySite}
use Rattle.reloading.specs.Alike.{Alike}
use Rattle.reloading.specs.Between.{Between}
use Rattle.reloading.specs.Orders.{AreAllowed, after_all}
use Rattle.reloading.specs.Proxies.{HasNoProxy, proxies_len}
use Rattle.reloading.specs.Reload.{AreResolves}
use Rattle.reloading.proofs.AfterLemmas.{now-legal}
use Rattle.reloading.proofs.AlikeLemmas.{alike-of}
use Rattle.reloading.proofs.LeftLemmas.{none-left}
use Rattle.reloading.proofs.ResolveLemmas.{left-at, none-at-root, resolves-between}

---------------------------------------------------------------- a proxy that is left

pub some-proxy : (r : Reading) → 0 < proxies_len r → (p : ProxySite) × (is_proxy_site r p ≡ true)
some-proxy r more = by (slice_get (sites r) 0) refl
  where
    first : (ps : List ProxySite) → 0 < length ps → slice_get ps 0 ≡ None → ⊥
    first [] low none = omega (arith, low)
    first (p ∷ ps) low none = none-some p (sym none)

    by : (q : Option ProxySite) → slice_get (sites r) 0 ≡ q → (p : ProxySite) × (is_proxy_site r p ≡ true)
    by None none = absurd (first (sites r) more none)
    by (Some p) at =
        let a = flat_map-at (λ n. sites_of r (record { 0 = n })) (range_with_len 0 r.next) 0 p at in
        let o : ObjectNo = record { 0 = a.1 } in
        let b = flat_map-at (sites_under r o) (all_features_of r (node.Object o)) a.2 p a.4 in
        let slots = map (site o b.1) (range_with_len 0 (length (r.values (at_end (node.Object o) b.1)))) in
        (p, passes-kept (is_proxy_site r) slots p (stands (sites_under r o b.1) b.2 p b.4))

---------------------------------------------------------------- resolves

module _ (s : Model) (legal : IsLegal s) (none : HasNoProxy (reading s)) where
  -- a partly resolved model after some resolves
  pub record AreDone (t : Model) (cs : List Change) : Type 0 where
    pub allowed : AreAllowed t cs
    pub alike : Alike (reading s) (reading (after_all t cs))

  -- a proxy of an object is resolved, and then the rest
  first-resolved : (n : Node) (f : FeatureNo) (i : ℕ) (cs : List Change) → ((w : ValuesState) (b : Links) → IsLegal (model_of s.metamodel w b) → Between (reading s) (reading (model_of s.metamodel w b)) → AreResolves (model_of s.metamodel w b) cs → AreDone (model_of s.metamodel w b) cs)
      → (w : ValuesState) (b : Links) → IsLegal (model_of s.metamodel w b) → Between (reading s) (reading (model_of s.metamodel w b)) → AreResolves (model_of s.metamodel w b) (At (at_end n f) (Resolve i) ∷ cs) → AreDone (model_of s.metamodel w b) (At (at_end n f) (Resolve i) ∷ cs)
  first-resolved (node.Object o) f i cs rest_of w b other between resolves =
      let u = model_after (model_of s.metamodel w b) (At (at_end (node.Object o) f) (Resolve i)) in
      let one = resolves-between s w b legal other none between o f i resolves.0 in
      let rest = rest_of u.values u.links (now-legal (left-at s w b legal other none between o f i resolves.0)) one.between resolves.1 in
      record { allowed = (record { early = one.early; late = one.late }, rest.allowed); alike = rest.alike }
  first-resolved (node.Resource k) f i cs rest_of w b other between resolves = absurd (none-at-root (model_of s.metamodel w b) other k f i resolves.0)

  pub all-resolved : (cs : List Change) (w : ValuesState) (b : Links) → IsLegal (model_of s.metamodel w b) → Between (reading s) (reading (model_of s.metamodel w b)) → AreResolves (model_of s.metamodel w b) cs → AreDone (model_of s.metamodel w b) cs
  all-resolved [] w b other between resolves = record { allowed = tt; alike = alike-of (reading s) (reading (model_of s.metamodel w b)) none resolves between }
  all-resolved (At e (Resolve i) ∷ cs) w b other between resolves = first-resolved e.node e.feature i cs (λ v c other between resolves. all-resolved cs v c other between resolves) w b other between resolves
  all-resolved (_ ∷ cs) w b other between resolves = absurd resolves

  -- there are resolves that leave no proxy
  pub some-resolves : (n : ℕ) (w : ValuesState) (b : Links) → IsLegal (model_of s.metamodel w b) → Between (reading s) (reading (model_of s.metamodel w b)) → proxies_len (reading (model_of s.metamodel w b)) < n
      → (cs : List Change) × AreResolves (model_of s.metamodel w b) cs
  some-resolves zero w b other between low = absurd (omega (arith, low))
  some-resolves (suc n) w b other between low =
      let t = model_of s.metamodel w b in
      by-count (proxies_len (reading t)) w b other refl
      (λ more.
      let some = some-proxy (reading t) more in
      let p = some.0 in
      let one = resolves-between s w b legal other none between p.object p.feature p.index some.1 in
      let u = model_after t (At (at_end (node.Object p.object) p.feature) (Resolve p.index)) in
      let fewer = one.fewer in
      let less = fell (is_some (shape s.metamodel p.feature).opposite) (proxies_len (reading t)) (proxies_len (reading u)) fewer in
      let rest = some-resolves n u.values u.links (now-legal (left-at s w b legal other none between p.object p.feature p.index some.1)) one.between (omega (arith, low, less)) in
      (At (at_end (node.Object p.object) p.feature) (Resolve p.index) ∷ rest.0, (some.1, rest.1)))
    where
      fell : (b : Bool) (x y : ℕ) → x ≡ (if b then 2 else 1) + y → y < x
      fell true x y h = omega (arith, h)
      fell false x y h = omega (arith, h)

      by-count : (k : ℕ) (w : ValuesState) (b : Links) → IsLegal (model_of s.metamodel w b) → proxies_len (reading (model_of s.metamodel w b)) ≡ k → (0 < proxies_len (reading (model_of s.metamodel w b)) → (cs : List Change) × AreResolves (model_of s.metamodel w b) cs)
          → (cs : List Change) × AreResolves (model_of s.metamodel w b) cs
      by-count zero w b other is more = ([], none-left (model_of s.metamodel w b) other is)
      by-count (suc k) w b other is more = more (omega (arith, is))
