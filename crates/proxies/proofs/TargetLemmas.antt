-- The targets of proxies: a proxy at both ends of a link.
use Rattle.std.proofs.Common.{◌≡◌, ℕ, ◌<◌, ◌≤◌, ◌&&◌, not, true, false, List, length, slice_get, arith, Option, Some, None, is_some, option_and_then, option_map, refl, sym, ap, ◌∙◌, subst}
use Rattle.std.specs.Prelude.{position}
use Rattle.std.specs.Option.{option_map_or}
use Rattle.std.proofs.lemmas.Bool.{false≢true}
use Rattle.std.proofs.lemmas.Option.{none-some, same_Some}
use Rattle.mm_meta.proofs.ShapeLemmas.{opposites_are_pairs}
use Rattle.mm_types.proofs.SameLemmas.{same_end-true}
use Rattle.mm_types.specs.OfDocument.{IsOfDocument}
use Rattle.mm_types.specs.Same.{same_end, same_node}
use Rattle.mm_types.specs.Shapes.{shape}
use Rattle.mm_types.specs.declared.end.End.{End}
use Rattle.mm_types.specs.declared.numbers.FeatureNo.{FeatureNo}
use Rattle.mm_types.specs.declared.numbers.Node.{Node}
use Rattle.mm_types.specs.declared.numbers.Node.TheVariants as node
use Rattle.mm_types.specs.declared.numbers.ObjectNo.{ObjectNo}
use Rattle.mm_types.specs.declared.value.Value.{Value}
use Rattle.mm_types.specs.declared.value.Value.TheVariants as value
use Rattle.links.specs.Links.{far_end, text_of}
use Rattle.models.specs.Reading.{Reading}
use Rattle.fragment_paths.specs.Finding.{at}
use Rattle.proxies.specs.Resolving.{counterpart, first_to, is_unmatched, leads_to, proxy_at, target, target_at}
use Rattle.proxies.specs.declared.resolved_proxy.Counterpart.{Counterpart}
use Rattle.proxies.specs.declared.resolved_proxy.ResolvedProxy.{ResolvedProxy}
use Rattle.proxies.proofs.PositionLemmas.{NonePass, position-first, position-none, position-passes}

pub leads-proxy : (r : Reading) (n : Node) (v : Value) → leads_to r n v ≡ true → (t : List ℕ) × (v ≡ value.Proxy t)
leads-proxy r n (value.Proxy t) h = (t, refl)
leads-proxy r n _ h = absurd (false≢true h)

---------------------------------------------------------------- looking for a proxy

abbrev counted : End → ℕ → Counterpart
counted d j = record { end = d; index = j }

-- the first proxy that leads to a node is found, and none if no proxy does
pub first-found : (r : Reading) (n : Node) (d : End) (j : ℕ) → option_map_or (λ o. same_node (node.Object o) n) (option_and_then (at r) (proxy_at r d j)) false ≡ true → NonePass (leads_to r n) (r.values d) j
    → Some (record { end = d; index = j }) ≡ first_to r n d
first-found r n d j h none = by (slice_get (r.values d) j) refl h
  where
    by : (q : Option Value) → slice_get (r.values d) j ≡ q → option_map_or (λ o. same_node (node.Object o) n) (option_and_then (at r) (option_and_then text_of q)) false ≡ true → Some (counted d j) ≡ first_to r n d
    by None is h = absurd (false≢true h)
    by (Some v) is h = sym (ap (option_map (counted d)) (position-first (leads_to r n) (r.values d) j v is h none))

-- if no proxy is at an index below i, no value there leads to a node
pub none-leads : (r : Reading) (n : Node) (d : End) (i : ℕ) → ((k : ℕ) → k < i → proxy_at r d k ≡ None) → NonePass (leads_to r n) (r.values d) i
none-leads r n d i none k v low there =
    ap (λ (t : Option (List ℕ)). option_map_or (λ o. same_node (node.Object o) n) (option_and_then (at r) t) false) (sym (ap (option_and_then text_of) there) ∙ none k low)

pub first-lacking : (r : Reading) (n : Node) (d : End) (i : ℕ) → length (r.values d) ≤ i → NonePass (leads_to r n) (r.values d) i → None ≡ first_to r n d
first-lacking r n d i past none = sym (ap (option_map (counted d)) (position-none (leads_to r n) (r.values d) (λ k v low at. none k v (omega (arith, low, past)) at)))

---------------------------------------------------------------- what is found

-- a proxy is at the opposite end
pub record IsMatch (r : Reading) (e : End) (o : ObjectNo) (c : Counterpart) : Type 0 where
  pub feature : FeatureNo
  pub opposite : (shape r.metamodel e.feature).opposite ≡ Some feature
  pub stands : c.end ≡ far_end o feature
  pub text : List ℕ
  pub proxy : slice_get (r.values c.end) c.index ≡ Some (value.Proxy text)
  pub leads : leads_to r e.node (value.Proxy text) ≡ true

pub match-is : (r : Reading) (e : End) (o : ObjectNo) (c : Counterpart) → counterpart r e o ≡ Some c → IsMatch r e o c
match-is r e o c h = by (shape r.metamodel e.feature).opposite refl h
  where
    first : (g : FeatureNo) → (shape r.metamodel e.feature).opposite ≡ Some g → (q : Option ℕ) → position (leads_to r e.node) (r.values (far_end o g)) ≡ q
        → option_map (λ j. record { end = far_end o g; index = j }) q ≡ Some c → IsMatch r e o c
    first g is None none found = absurd (none-some c found)
    first g is (Some j) there found =
        let at_j = position-passes (leads_to r e.node) (r.values (far_end o g)) j there in
        let text = leads-proxy r e.node at_j.0 at_j.2 in
        let one : Counterpart = record { end = far_end o g; index = j } in
        subst (IsMatch r e o) (same_Some one c found) (record { feature = g; opposite = is; stands = refl; text = text.0; proxy = at_j.1 ∙ ap (λ (v : Value). Some v) text.1; leads = ap (leads_to r e.node) (sym text.1) ∙ at_j.2 })

    by : (q : Option FeatureNo) → (shape r.metamodel e.feature).opposite ≡ q → option_and_then (first_to r e.node) (option_map (far_end o) q) ≡ Some c → IsMatch r e o c
    by None is found = absurd (none-some c found)
    by (Some g) is found = first g is (position (leads_to r e.node) (r.values (far_end o g))) refl found

-- the opposite end is another end
pub match-apart : (r : Reading) (e : End) (o : ObjectNo) (g : FeatureNo) → IsOfDocument r.metamodel → (shape r.metamodel e.feature).opposite ≡ Some g → same_end (far_end o g) e ≡ false
match-apart r e o g d opposite =
    elim (same_end (far_end o g) e) as (λ b. same_end (far_end o g) e ≡ b → b ≡ false) [
      | true ↦ λ same. absurd ((opposites_are_pairs r.metamodel d e.feature g opposite).apart (ap (λ (x : End). x.feature.0) (same_end-true (far_end o g) e same)))
      | false ↦ λ _. refl
    ] refl

-- a proxy is at an index, and finds an object
pub record IsFound (r : Reading) (e : End) (i : ℕ) (x : ResolvedProxy) : Type 0 where
  pub text : List ℕ
  pub proxy : slice_get (r.values e) i ≡ Some (value.Proxy text)
  pub matched : x.counterpart ≡ counterpart r e x.object
  pub leads : at r text ≡ Some x.object

pub found-is : (r : Reading) (e : End) (i : ℕ) (x : ResolvedProxy) → target_at r e i ≡ Some x → IsFound r e i x
found-is r e i x h = by (slice_get (r.values e) i) refl h
  where
    led : (t : List ℕ) → slice_get (r.values e) i ≡ Some (value.Proxy t) → (q : Option ObjectNo) → at r t ≡ q → option_map (target r e) q ≡ Some x → IsFound r e i x
    led t is None none found = absurd (none-some x found)
    led t is (Some o) leads found = subst (IsFound r e i) (same_Some (target r e o) x found) (record { text = t; proxy = is; matched = refl; leads = leads })

    of : (v : Value) → slice_get (r.values e) i ≡ Some v → option_map (target r e) (option_and_then (at r) (text_of v)) ≡ Some x → IsFound r e i x
    of (value.Proxy t) is found = led t is (at r t) refl found
    of _ is found = absurd (none-some x found)

    by : (q : Option Value) → slice_get (r.values e) i ≡ q → option_map (target r e) (option_and_then (at r) (option_and_then text_of q)) ≡ Some x → IsFound r e i x
    by None is found = absurd (none-some x found)
    by (Some v) is found = of v is found

-- without a proxy at the opposite end there is no opposite
pub alone-of : (r : Reading) (e : End) (x : ResolvedProxy) → is_unmatched r e x ≡ false → x.counterpart ≡ None → (shape r.metamodel e.feature).opposite ≡ None
alone-of r e x matched none = by (shape r.metamodel e.feature).opposite (subst (λ (q : Option Counterpart). (is_some (shape r.metamodel e.feature).opposite && not (is_some q)) ≡ false) none matched)
  where
    by : (q : Option FeatureNo) → (is_some q && true) ≡ false → q ≡ None
    by None h = refl
    by (Some g) h = absurd (false≢true (sym h))
