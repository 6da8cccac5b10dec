-- A reading after proxies are resolved: each value is as it was, or is the object at the address of the proxy that was there.
use Rattle.std.proofs.Common.{◌≡◌, inl, inr, ℕ, Bool, true, false, List, [], ◌∷◌, Option, Some, None, length, slice_get, if◌then◌else◌, refl, sym, ap, ◌∙◌, subst}
use Rattle.std.specs.Prelude.{◌⊎◌, option_and_then, slice_set, unwrap_or}
use Rattle.std.specs.Option.{option_map_or}
use Rattle.std.proofs.lemmas.Bool.{false≢true, true≢false}
use Rattle.mm_types.proofs.SameLemmas.{same_end-true, same_node-true}
use Rattle.mm_types.specs.Lookups as lookups
use Rattle.mm_types.specs.Same.{same_end, same_node}
use Rattle.mm_types.specs.Shapes.{is_containment}
use Rattle.mm_types.specs.declared.end.End.{End}
use Rattle.mm_types.specs.declared.numbers.FeatureNo.{FeatureNo}
use Rattle.mm_types.specs.declared.numbers.Node.{Node}
use Rattle.mm_types.specs.declared.numbers.Node.TheVariants as node
use Rattle.mm_types.specs.declared.numbers.ObjectNo.{ObjectNo}
use Rattle.mm_types.specs.declared.numbers.ResourceNo.{ResourceNo}
use Rattle.mm_types.specs.declared.value.Value.{Value}
use Rattle.mm_types.specs.declared.value.Value.TheVariants as value
use Rattle.web_uris.specs.Addresses.{fragment_part, has_mark, uri_part}
use Rattle.web_uris.specs.Paths.{parse}
use Rattle.web_uris.specs.declared.path.Path.{Path}
use Rattle.web_uris.specs.declared.path.Step.{Step}
use Rattle.models.specs.Legal.{IsLegal}
use Rattle.models.specs.Model.{Model, reading}
use Rattle.models.specs.Reading.{Reading, at_end, objects_of, resource_named}
use Rattle.fragment_paths.proofs.InsideLemmas.{contents-contains}
use Rattle.fragment_paths.proofs.ObjectLemmas.{by-containment}
use Rattle.fragment_paths.specs.Finding.{at, feature_of, find, object_after_step, object_after_steps}
use Rattle.proxies.specs.Proxies.{end_of}
use Rattle.proxies.specs.Resolving.{leads_to}
use Rattle.proxies.specs.ResolvingAll.{ends_after_replace, resolved_to, values_left, values_with, with_resolved}
use Rattle.proxies.specs.declared.site.ProxySite.{ProxySite}
use Rattle.proxies.specs.declared.resolved_proxy.Counterpart.{Counterpart}
use Rattle.proxies.specs.declared.resolved_proxy.ResolvedProxy.{ResolvedProxy}
use Rattle.handshake.proofs.ResolveAllLemmas.{one-resolved, resolved-to}
use Rattle.handshake.proofs.ResolvedReadingLemmas.{contains-with, with_links}
use Rattle.proxies.proofs.TargetLemmas.{IsFound, found-is, match-apart, match-is}
use Rattle.proxies.proofs.ReplacedLemmas.{ends_after_replace-length, get-set}
use Rattle.handshake.specs.Effects.{with_resolution}

---------------------------------------------------------------- addresses

-- if the containments are the same, each address leads to the same object
module _ (r : Reading) (ends : End → List Value) (same : (n : Node) (h : FeatureNo) → is_containment r.metamodel h ≡ true → ends (at_end n h) ≡ r.values (at_end n h)) where
  abbrev now : Reading
  now = record r { values = ends }

  object_after_step-stays : (o : ObjectNo) (s : Step) → object_after_step now o s ≡ object_after_step r o s
  object_after_step-stays o s =
      let i = unwrap_or s.index 0 in
      elim (feature_of r o s) as (λ q. feature_of r o s ≡ q → option_and_then (λ f. slice_get (objects_of (ends (at_end (node.Object o) f))) i) q ≡ option_and_then (λ f. slice_get (objects_of (r.values (at_end (node.Object o) f))) i) q) [
        | None ↦ λ _. refl
        | Some f ↦ λ is. ap (λ (vs : List Value). slice_get (objects_of vs) i) (same (node.Object o) f (by-containment r o s f is))
      ] refl

  object_after_steps-stays : (ss : List Step) (o : ObjectNo) → object_after_steps now ss o ≡ object_after_steps r ss o
  object_after_steps-stays [] o = refl
  object_after_steps-stays (s ∷ ss) o = λ k. option_and_then (λ p. object_after_steps-stays ss p k) (object_after_step-stays o s k)

  find-stays : (n : ResourceNo) (p : Path) → find now n p ≡ find r n p
  find-stays n p =
      let tops = ap (λ (vs : List Value). slice_get (objects_of vs) p.root) (same (node.Resource n) (lookups.contents r.metamodel) (contents-contains r.metamodel)) in
      λ k. option_and_then (λ o. object_after_steps-stays p.steps o k) (tops k)

  pub at-stays : (t : List ℕ) → at now t ≡ at r t
  at-stays t = λ k. if has_mark t then option_and_then (λ n. option_and_then (λ p. find-stays n p k) (parse (fragment_part t))) (resource_named r (uri_part t)) else None

---------------------------------------------------------------- values

-- a proxy was there, and now the object at its address is
pub record IsLed (r : Reading) (was now : Option Value) : Type 0 where
  pub text : List ℕ
  pub object : ObjectNo
  pub proxy : was ≡ Some (value.Proxy text)
  pub leads : at r text ≡ Some object
  pub is : now ≡ Some (value.Object object)

abbrev pub IsSameOrLed : Reading → Option Value → Option Value → Type 0
IsSameOrLed r was now = (now ≡ was) ⊎ IsLed r was now

pub record Follows (r : Reading) (ends : End → List Value) : Type 0 where
  pub long : (d : End) → length (ends d) ≡ length (r.values d)
  pub contains : (n : Node) (h : FeatureNo) → is_containment r.metamodel h ≡ true → ends (at_end n h) ≡ r.values (at_end n h)
  pub each : (d : End) (j : ℕ) → IsSameOrLed r (slice_get (r.values d) j) (slice_get (ends d) j)

-- an object is no proxy
pub object-apart : (o : ObjectNo) (t : List ℕ) → Some (value.Object o) ≡ Some (value.Proxy t) → ⊥
object-apart o t same = true≢false (ap (λ (q : Option Value). option_map_or lookups.is_object q false) same)

follows-itself : (r : Reading) → Follows r r.values
follows-itself r = record { long = λ d. refl; contains = λ n h c. refl; each = λ d j. inl refl }

pub led-on : (r : Reading) (a b c : Option Value) → IsSameOrLed r a b → IsSameOrLed r b c → IsSameOrLed r a c
led-on r a b c (inl x) (inl y) = inl (y ∙ x)
led-on r a b c (inr x) (inl y) = inr (record { text = x.text; object = x.object; proxy = x.proxy; leads = x.leads; is = y ∙ x.is })
led-on r a b c (inl x) (inr y) = inr (record { text = y.text; object = y.object; proxy = sym x ∙ y.proxy; leads = y.leads; is = y.is })
led-on r a b c (inr x) (inr y) = absurd (object-apart x.object y.text (sym x.is ∙ y.proxy))

-- if a reading follows another one, and a third follows it, the third follows the first
pub follows-on : (r : Reading) (ends more : End → List Value) → Follows r ends → Follows (record r { values = ends }) more → Follows r more
follows-on r ends more one two =
    record {
      long = λ d. two.long d ∙ one.long d;
      contains = λ n h c. two.contains n h c ∙ one.contains n h c;
      each = λ d j. led-on r (slice_get (r.values d) j) (slice_get (ends d) j) (slice_get (more d) j) (one.each d j) (before (slice_get (ends d) j) (slice_get (more d) j) (two.each d j));
    }
  where
    before : (a b : Option Value) → IsSameOrLed (record r { values = ends }) a b → IsSameOrLed r a b
    before a b (inl x) = inl x
    before a b (inr x) = inr (record { text = x.text; object = x.object; proxy = x.proxy; leads = sym (at-stays r ends one.contains x.text) ∙ x.leads; is = x.is })

---------------------------------------------------------------- one value

module _ (r : Reading) (ends : End → List Value) (e : End) (i : ℕ) (t : List ℕ) (o : ObjectNo) (leads : at r t ≡ Some o) where
  abbrev v : Value
  v = value.Object o

  each-ends_after_replace : slice_get (ends e) i ≡ Some (value.Proxy t) → (d : End) (j : ℕ) → IsSameOrLed r (slice_get (ends d) j) (slice_get (ends_after_replace ends e i v d) j)
  each-ends_after_replace at d j =
      elim (same_end e d) as (λ b. same_end e d ≡ b → IsSameOrLed r (slice_get (ends d) j) (slice_get (if b then slice_set (ends d) i v else ends d) j)) [
        | true ↦ λ same. subst (λ (y : End). IsSameOrLed r (slice_get (ends y) j) (slice_get (slice_set (ends y) i v) j)) (same_end-true e d same)
            (elim (get-set (ends e) i v (value.Proxy t) at j) [
              | inl h ↦ inr (record { text = t; object = o; proxy = ap (slice_get (ends e)) h.0 ∙ at; leads = leads; is = h.1 })
              | inr h ↦ inl h
            ])
        | false ↦ λ _. inl refl
      ] refl

-- a value that leads to an object has its address
pub leads-at : (r : Reading) (o : ObjectNo) (t : List ℕ) → leads_to r (node.Object o) (value.Proxy t) ≡ true → at r t ≡ Some o
leads-at r o t h = by (at r t) refl h
  where
    by : (q : Option ObjectNo) → at r t ≡ q → option_map_or (λ p. same_node (node.Object p) (node.Object o)) q false ≡ true → at r t ≡ Some o
    by None is h = absurd (false≢true h)
    by (Some p) is h = is ∙ ap object_in (same_node-true (node.Object p) (node.Object o) h)
      where
        object_in : Node → Option ObjectNo
        object_in (node.Object o) = Some o
        object_in (node.Resource k) = None

module _ (s : Model) (legal : IsLegal s) (p : ProxySite) (x : ResolvedProxy) (is : resolved_to (reading s) p ≡ Some x) where
  abbrev r : Reading
  r = reading s

  abbrev e : End
  e = end_of p

  abbrev with : Option Counterpart → ResolvedProxy
  with q = record { object = x.object; counterpart = q }

  found : IsFound (reading s) (end_of p) p.index x
  found = found-is r e p.index x (resolved-to r p x is).found

  long-with : (q : Option Counterpart) (d : End) → length (values_with r e p.index (with q) d) ≡ length (r.values d)
  long-with None d = ends_after_replace-length r.values e p.index (value.Object x.object) d
  long-with (Some c) d =
      let self = value.Object p.object in
      ends_after_replace-length (ends_after_replace r.values c.end c.index self) e p.index (value.Object x.object) d ∙ ends_after_replace-length r.values c.end c.index self d

  each-with : (q : Option Counterpart) → x.counterpart ≡ q → (d : End) (j : ℕ) → IsSameOrLed r (slice_get (r.values d) j) (slice_get (values_with r e p.index (with q) d) j)
  each-with None none d j = each-ends_after_replace r r.values e p.index found.text x.object found.leads found.proxy d j
  each-with (Some c) there d j =
      let match = match-is r e x.object c (sym found.matched ∙ there) in
      let self = value.Object p.object in
      let back = ends_after_replace r.values c.end c.index self in
      let apart = ap (λ (y : End). same_end y e) match.stands ∙ match-apart r e x.object match.feature legal.metamodel match.opposite in
      let still = ap (λ (b : Bool). slice_get (if b then slice_set (r.values e) c.index self else r.values e) p.index) apart ∙ found.proxy in
      led-on r (slice_get (r.values d) j) (slice_get (back d) j) (slice_get (values_with r e p.index (with (Some c)) d) j)
      (each-ends_after_replace r r.values c.end c.index match.text p.object (leads-at r p.object match.text match.leads) match.proxy d j)
      (each-ends_after_replace r back e p.index found.text x.object found.leads still d j)

  pub one-follows : Follows (reading s) (values_with (reading s) (end_of p) p.index x)
  one-follows =
      let to = resolved-to r p x is in
      record { long = long-with x.counterpart; contains = contains-with s legal p.object p.feature p.index to.late x to.found; each = each-with x.counterpart refl }

-- the reading after all proxies are resolved follows the reading before
pub all-follow : (ps : List ProxySite) (s : Model) → IsLegal s → Follows (reading s) (values_left (reading s) ps)
all-follow [] s legal = follows-itself (reading s)
all-follow (p ∷ ps) s legal =
    let r = reading s in
    let ends : Option ResolvedProxy → End → List Value = λ q. option_map_or (λ x. values_left (with_resolved r p x) ps) q (values_left r ps) in
    elim (resolved_to r p) as (λ q. resolved_to r p ≡ q → Follows r (ends q)) [
      | None ↦ λ _. all-follow ps s legal
      | Some x ↦ λ is.
          let of = resolved-to r p x is in
          let one = one-resolved s legal p x of.late of.found in
          let t = with_links s (with_resolution s.links (record { reads = r; site = p; target = x })) in
          follows-on r (values_with r (end_of p) p.index x) (values_left (with_resolved r p x) ps) (one-follows s legal p x is)
          (subst (λ (z : Reading). Follows z (values_left z ps)) one.reads (all-follow ps t one.legal))
    ] refl
