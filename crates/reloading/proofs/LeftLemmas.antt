-- The number of proxies that are left: one fewer if a value that is no proxy replaces one; and if the number is 0, no end has a proxy.
use Rattle.std.proofs.Common.{◌≡◌, ◌∙◌, ℕ, zero, suc, ◌+◌, ◌<◌, Bool, true, false, ◌&&◌, List, [], ◌∷◌, Option, Some, None, filter, flat_map, inl, inr, is_some, length, length-append, map, nat_eq, slice_get, slice_set, if◌then◌else◌, arith, refl, sym, ap, subst}
use Rattle.std.specs.Prelude.{option_and_then}
use Rattle.std.specs.List.{IsDistinct, range_with_len}
use Rattle.std.proofs.lemmas.Bool.{and_parts, eqb-true, false≢true}
use Rattle.std.proofs.lemmas.Bool.Decides.{nat_tests}
use Rattle.std.proofs.lemmas.List.{length-set}
use Rattle.std.proofs.lemmas.List.FromFn.{get_or-range_with_len, length-range_with_len}
use Rattle.std.proofs.lemmas.Option.{get_or_from_slice_get, none-some, same_Some, slice_get-get_or, slice_get_within}
use Rattle.std.proofs.Math.Bool.{and-false}
use Rattle.mm_types.specs.Lookups as lookups
use Rattle.mm_types.specs.Same.{same_end, same_feature, same_node}
use Rattle.mm_types.specs.Shapes.{is_containment, shape}
use Rattle.mm_types.specs.declared.end.End.{End}
use Rattle.mm_types.specs.declared.numbers.FeatureNo.{FeatureNo}
use Rattle.mm_types.specs.declared.numbers.Node.{Node}
use Rattle.mm_types.specs.declared.numbers.Node.TheVariants as node
use Rattle.mm_types.specs.declared.numbers.ObjectNo.{ObjectNo}
use Rattle.mm_types.specs.declared.numbers.ResourceNo.{ResourceNo}
use Rattle.mm_types.specs.declared.value.Value.{Value}
use Rattle.mm_types.specs.declared.value.Value.TheVariants as value
use Rattle.links.specs.Links.{end, text_of}
use Rattle.models.specs.Legal.{IsLegal}
use Rattle.models.specs.Model.{Model, reading, values_at}
use Rattle.models.specs.Reading.{Reading, all_features_of, at_end}
use Rattle.containment.proofs.DistinctLemmas.{features-distinct}
use Rattle.containment.proofs.PartLemmas.{end-made, legal-at, values-linked}
use Rattle.fragment_paths.proofs.InsideLemmas.{contents-contains}
use Rattle.fragment_paths.proofs.ObjectLemmas.{all-objects}
use Rattle.doc_loader.proofs.SoundLemmas.{at-map, map-at}
use Rattle.round_trip.proofs.ListLemmas.{of-each}
use Rattle.round_trip.proofs.PartsListLemmas.{all-passing}
use Rattle.round_trip.proofs.SideLemmas.{among-class}
use Rattle.round_trip.proofs.ValuesListLemmas.{place-of, stands}
use Rattle.proxies.specs.Proxies.{is_proxy_site, site, sites_of, sites_under}
use Rattle.proxies.specs.declared.site.ProxySite.{ProxySite}
use Rattle.proxies.proofs.ReplacedLemmas.{get-set}
use Rattle.reloading.specs.Proxies.{HasNoProxy, proxies_len}
use Rattle.doc_writer.proofs.PlainLemmas.{reference-of}
use Rattle.mm_meta.proofs.OwnerLemmas.{nat_eq-turned}

---------------------------------------------------------------- what passes a test

abbrev as_one : Bool → ℕ
as_one b = if b then 1 else 0

module _ {X : Type 0} (p q : X → Bool) where
  count : (b : Bool) (x : X) (xs : List X) → length (if b then x ∷ xs else xs) ≡ as_one b + length xs
  count true x xs = omega arith
  count false x xs = omega arith

  pass-alike : (xs : List X) → ((j : ℕ) (x : X) → slice_get xs j ≡ Some x → p x ≡ q x) → length (filter p xs) ≡ length (filter q xs)
  pass-alike [] same = refl
  pass-alike (x ∷ xs) same =
      let rest = pass-alike xs (λ j y at. same (suc j) y at) in
      count (p x) x (filter p xs) ∙ (λ i. as_one (same 0 x refl i) + rest i) ∙ sym (count (q x) x (filter q xs))

  -- if one element no longer passes a test, and each other passes as before
  one-passes-less : (xs : List X) (i : ℕ) (a : X) → slice_get xs i ≡ Some a → p a ≡ true → q a ≡ false → ((j : ℕ) (x : X) → slice_get xs j ≡ Some x → (j ≡ i → ⊥) → p x ≡ q x)
      → length (filter p xs) ≡ suc (length (filter q xs))
  one-passes-less [] i a at before now same = absurd (none-some a at)
  one-passes-less (x ∷ xs) zero a at before now same =
      let is = same_Some x a at in
      let rest = pass-alike xs (λ j y there. same (suc j) y there (λ e. omega (arith, e))) in
      let one = count (p x) x (filter p xs) ∙ ap (λ (b : Bool). as_one b + length (filter p xs)) (ap p is ∙ before) in
      let two = count (q x) x (filter q xs) ∙ ap (λ (b : Bool). as_one b + length (filter q xs)) (ap q is ∙ now) in
      omega (arith, rest, one, two)
  one-passes-less (x ∷ xs) (suc i) a at before now same =
      let rest = one-passes-less xs i a at before now (λ j y there other. same (suc j) y there (λ e. other (let f : j ≡ i = omega (arith, e) in f))) in
      let here = ap as_one (same 0 x refl (λ e. omega (arith, e))) in
      let one = count (p x) x (filter p xs) in
      let two = count (q x) x (filter q xs) in
      omega (arith, rest, here, one, two)

---------------------------------------------------------------- lists of lists

module _ {X Y : Type 0} (g h : X → List Y) where
  as-many : (xs : List X) → ((j : ℕ) (x : X) → slice_get xs j ≡ Some x → length (g x) ≡ length (h x)) → length (flat_map g xs) ≡ length (flat_map h xs)
  as-many [] same = refl
  as-many (x ∷ xs) same =
      let here = same 0 x refl in
      let rest = as-many xs (λ j y at. same (suc j) y at) in
      length-append (g x) (flat_map g xs) ∙ (λ i. here i + rest i) ∙ sym (length-append (h x) (flat_map h xs))

  -- if one element gives one result fewer, and each other as many as before
  one-fewer-in : (xs : List X) (i : ℕ) (a : X) → slice_get xs i ≡ Some a → ((j : ℕ) (x : X) → slice_get xs j ≡ Some x → (j ≡ i → ⊥) → length (g x) ≡ length (h x)) → length (g a) ≡ suc (length (h a))
      → length (flat_map g xs) ≡ suc (length (flat_map h xs))
  one-fewer-in [] i a at same fewer = absurd (none-some a at)
  one-fewer-in (x ∷ xs) zero a at same fewer =
      let here : length (g x) ≡ suc (length (h x)) = subst (λ (y : X). length (g y) ≡ suc (length (h y))) (sym (same_Some x a at)) fewer in
      let rest = as-many xs (λ j y there. same (suc j) y there (λ q. omega (arith, q))) in
      let one = length-append (g x) (flat_map g xs) in
      let two = length-append (h x) (flat_map h xs) in
      omega (arith, here, rest, one, two)
  one-fewer-in (x ∷ xs) (suc i) a at same fewer =
      let here = same 0 x refl (λ q. omega (arith, q)) in
      let rest = one-fewer-in xs i a at (λ j y there other. same (suc j) y there (λ q. other (let e : j ≡ i = omega (arith, q) in e))) fewer in
      let one = length-append (g x) (flat_map g xs) in
      let two = length-append (h x) (flat_map h xs) in
      omega (arith, here, rest, one, two)

-- features at two indexes of a list without repeats are two
distinct-at : (fs : List FeatureNo) (j k : ℕ) (f g : FeatureNo) → IsDistinct same_feature fs → slice_get fs j ≡ Some g → slice_get fs k ≡ Some f → (j ≡ k → ⊥) → same_feature f g ≡ false
unfolding IsDistinct
distinct-at [] j k f g d first second other = absurd (none-some g first)
distinct-at (x ∷ xs) zero zero f g d first second other = absurd (other refl)
distinct-at (x ∷ xs) zero (suc k) f g d first second other =
    nat_eq-turned f.0 g.0 ∙ ap (λ (y : FeatureNo). same_feature y f) (sym (same_Some x g first)) ∙ of-each (λ y. same_feature x y ≡ false) xs f d.0 (stands xs k f second)
distinct-at (x ∷ xs) (suc j) zero f g d first second other =
    ap (λ (y : FeatureNo). same_feature y g) (sym (same_Some x f second)) ∙ of-each (λ y. same_feature x y ≡ false) xs g d.0 (stands xs j g first)
distinct-at (x ∷ xs) (suc j) (suc k) f g d first second other = distinct-at xs j k f g d.1 first second (λ q. other (ap suc q))

range-at : (n i x : ℕ) → slice_get (range_with_len 0 n) i ≡ Some x → x ≡ i
range-at n i x at =
    let low = slice_get_within (range_with_len 0 n) i x at in
    let long = length-range_with_len 0 n in
    let is = sym (get_or_from_slice_get (range_with_len 0 n) i x x at) ∙ get_or-range_with_len 0 n i x (omega (arith, low, long)) in
    omega (arith, is)

pub at-range : (n i : ℕ) → i < n → slice_get (range_with_len 0 n) i ≡ Some i
at-range n i low =
    let long = length-range_with_len 0 n in
    let is = get_or-range_with_len 0 n i 0 low in
    let own : 0 + i ≡ i = omega arith in
    slice_get-get_or (range_with_len 0 n) i 0 (omega (arith, low, long)) ∙ ap (λ (x : ℕ). Some x) (is ∙ own)

set-own : (vs : List Value) (i : ℕ) (w v : Value) → slice_get vs i ≡ Some v → slice_get (slice_set vs i w) i ≡ Some w
set-own [] i w v at = absurd (none-some v at)
set-own (x ∷ xs) zero w v at = refl
set-own (x ∷ xs) (suc i) w v at = set-own xs i w v at

set-other : (vs : List Value) (i : ℕ) (w v : Value) → slice_get vs i ≡ Some v → (j : ℕ) → (j ≡ i → ⊥) → slice_get (slice_set vs i w) j ≡ slice_get vs j
set-other vs i w v at j other = elim (get-set vs i w v at j) [ inl h ↦ absurd (other h.0) | inr h ↦ h ]

---------------------------------------------------------------- one end

-- the reading with other values at the ends
abbrev pub with_values : Reading → (End → List Value) → Reading
with_values r values = record r { values = values }

-- a value is a proxy, if there is one
abbrev is_proxy : Option Value → Bool
is_proxy x = is_some (option_and_then text_of x)

-- the positions of an end
abbrev slots : ObjectNo → FeatureNo → ℕ → List ProxySite
slots o f n = map (site o f) (range_with_len 0 n)

at-slot : (o : ObjectNo) (f : FeatureNo) (n j : ℕ) (p : ProxySite) → slice_get (slots o f n) j ≡ Some p → site o f j ≡ p
at-slot o f n j p at =
    let x = map-at (site o f) (range_with_len 0 n) j p at in
    ap (site o f) (sym (range-at n j x.0 x.1)) ∙ x.2

module _ (r : Reading) (values : End → List Value) (o : ObjectNo) (f : FeatureNo) where
  abbrev d : End
  d = at_end (node.Object o) f

  alike-at : (j : ℕ) (p : ProxySite) → slice_get (slots o f (length (r.values d))) j ≡ Some p → is_proxy (slice_get (r.values d) j) ≡ is_proxy (slice_get (values d) j)
      → is_proxy_site r p ≡ is_proxy_site (with_values r values) p
  alike-at j p at same = subst (λ (x : ProxySite). is_proxy_site r x ≡ is_proxy_site (with_values r values) x) (at-slot o f (length (r.values d)) j p at) same

  -- the positions depend only on the number of values
  of-length : length (values d) ≡ length (r.values d) → length (sites_under (with_values r values) o f) ≡ length (filter (is_proxy_site (with_values r values)) (slots o f (length (r.values d))))
  of-length long = ap (λ (n : ℕ). length (filter (is_proxy_site (with_values r values)) (slots o f n))) long

  as-before : values d ≡ r.values d → length (sites_under r o f) ≡ length (sites_under (with_values r values) o f)
  as-before same =
      pass-alike (is_proxy_site r) (is_proxy_site (with_values r values)) (slots o f (length (r.values d)))
      (λ j p at. alike-at j p at (ap (λ (vs : List Value). is_proxy (slice_get vs j)) (sym same)))
      ∙ sym (of-length (ap (λ (vs : List Value). length vs) same))

  -- a value that is no proxy replaces a proxy
  one-at : (i : ℕ) (t : List ℕ) (v : Value) → slice_get (r.values d) i ≡ Some (value.Proxy t) → text_of v ≡ None → values d ≡ slice_set (r.values d) i v
      → length (sites_under r o f) ≡ suc (length (sites_under (with_values r values) o f))
  one-at i t v here plain now =
      let vs = r.values d in
      let own : slice_get (slots o f (length vs)) i ≡ Some (site o f i) = at-map (site o f) (range_with_len 0 (length vs)) i i (at-range (length vs) i (slice_get_within vs i (value.Proxy t) here)) in
      let gone = ap (λ (ws : List Value). is_proxy (slice_get ws i)) now ∙ ap is_proxy (set-own vs i v (value.Proxy t) here) ∙ ap (λ (y : Option (List ℕ)). is_some y) plain in
      one-passes-less (is_proxy_site r) (is_proxy_site (with_values r values)) (slots o f (length vs)) i (site o f i) own (ap is_proxy here) gone
      (λ j p at other. alike-at j p at (sym (ap (λ (ws : List Value). is_proxy (slice_get ws j)) now ∙ ap is_proxy (set-other vs i v (value.Proxy t) here j other))))
      ∙ ap suc (sym (of-length (ap (λ (ws : List Value). length ws) now ∙ length-set vs i v)))

---------------------------------------------------------------- all ends

module _ (r : Reading) (o : ObjectNo) (f : FeatureNo) (i : ℕ) (t : List ℕ) (v : Value) (values : End → List Value) (here : slice_get (r.values (at_end (node.Object o) f)) i ≡ Some (value.Proxy t)) (plain : text_of v ≡ None)
    (now : (d : End) → values d ≡ (if same_end (at_end (node.Object o) f) d then slice_set (r.values (at_end (node.Object o) f)) i v else r.values d))
    (low : o.0 < r.next) (k : ℕ) (own : slice_get (all_features_of r (node.Object o)) k ≡ Some f) (distinct : IsDistinct same_feature (all_features_of r (node.Object o))) where
  abbrev e : End
  e = at_end (node.Object o) f

  abbrev q : Reading
  q = with_values r values

  other-end : (b : ObjectNo) (g : FeatureNo) → same_end e (at_end (node.Object b) g) ≡ false → length (sites_under r b g) ≡ length (sites_under q b g)
  other-end b g other = let d = at_end (node.Object b) g in as-before r values b g (now d ∙ ap (λ (c : Bool). if c then slice_set (r.values e) i v else r.values d) other)

  own-end : same_end e e ≡ true → length (sites_under r o f) ≡ suc (length (sites_under q o f))
  own-end self = one-at r values o f i t v here plain (now e ∙ ap (λ (c : Bool). if c then slice_set (r.values e) i v else r.values e) self)

  self-end : same_end e e ≡ true
  self-end = grind (arith, nat_tests)

  own-object : length (sites_of r o) ≡ suc (length (sites_of q o))
  own-object =
      one-fewer-in (sites_under r o) (sites_under q o) (all_features_of r (node.Object o)) k f own
      (λ j g at other. other-end o g (ap (λ (b : Bool). same_node (node.Object o) (node.Object o) && b) (distinct-at (all_features_of r (node.Object o)) j k f g distinct at own other) ∙ and-false (same_node (node.Object o) (node.Object o))))
      (own-end self-end)

  other-object : (j : ℕ) → (j ≡ o.0 → ⊥) → length (sites_of r (record { 0 = j })) ≡ length (sites_of q (record { 0 = j }))
  other-object j other =
      let apart : nat_eq o.0 j ≡ false =
      elim (nat_eq o.0 j) as (λ b. nat_eq o.0 j ≡ b → b ≡ false) [ true ↦ λ h. absurd (other (sym (eqb-true o.0 j h))) | false ↦ λ _. refl ] refl in
      as-many (sites_under r (record { 0 = j })) (sites_under q (record { 0 = j })) (all_features_of r (node.Object (record { 0 = j })))
      (λ l g at. other-end (record { 0 = j }) g (ap (λ (b : Bool). b && same_feature f g) apart))

  -- one proxy fewer is left
  pub one-fewer : proxies_len r ≡ suc (proxies_len (with_values r values))
  one-fewer =
      one-fewer-in (λ j. sites_of r (record { 0 = j })) (λ j. sites_of q (record { 0 = j })) (range_with_len 0 r.next) o.0 o.0 (at-range r.next o.0 low)
      (λ j x at other. other-object x (λ same. other (sym (range-at r.next j x at) ∙ same))) own-object

---------------------------------------------------------------- none left

module _ (s : Model) (legal : IsLegal s) where
  -- the location of a proxy: an object that was made, and one of its features
  pub record IsOfFeatures (o : ObjectNo) (f : FeatureNo) : Type 0 where
    pub low : o.0 < length s.values.objects
    pub index : ℕ
    pub own : slice_get (all_features_of (reading s) (node.Object o)) index ≡ Some f

  pub of-features : (o : ObjectNo) (f : FeatureNo) (i : ℕ) (v : Value) → (shape s.metamodel f).is_reference ≡ true → slice_get (values_at s (at_end (node.Object o) f)) i ≡ Some v → IsOfFeatures o f
  of-features o f i v reference here =
      let e = at_end (node.Object o) f in
      let linked = ap (λ (vs : List Value). slice_get vs i) (sym (values-linked s e reference)) ∙ here in
      let has = (legal-at (reading s) e (end s.links e) i v (legal.links.ends e) linked).0 in
      let p = place-of (all_features_of (reading s) (node.Object o)) f (among-class (reading s) o f has) in
      record { low = end-made s e i v legal linked; index = p.0; own = p.1 }

  no-zero : (n : ℕ) → 0 ≡ suc n → ⊥
  no-zero n h = omega (arith, h)

  at-object : (o : ObjectNo) (f : FeatureNo) (i : ℕ) (t : List ℕ) → proxies_len (reading s) ≡ 0 → slice_get (values_at s (at_end (node.Object o) f)) i ≡ Some (value.Proxy t) → ⊥
  at-object o f i t zero_left here =
      let e = at_end (node.Object o) f in
      let of = of-features o f i (value.Proxy t) (reference-of s legal e i (value.Proxy t) here refl) here in
      let values = λ (d : End). if same_end e d then slice_set (values_at s e) i value.Null else values_at s d in
      no-zero (proxies_len (with_values (reading s) values))
      (sym zero_left ∙ one-fewer (reading s) o f i t value.Null values here refl (λ d. refl) of.low of.index of.own (features-distinct s legal (node.Object o)))

  at-resource : (k : ResourceNo) (f : FeatureNo) (i : ℕ) (t : List ℕ) → slice_get (values_at s (at_end (node.Resource k) f)) i ≡ Some (value.Proxy t) → ⊥
  at-resource k f i t here =
      let e = at_end (node.Resource k) f in
      let reference = reference-of s legal e i (value.Proxy t) here refl in
      let has = (legal-at (reading s) e (end s.links e) i (value.Proxy t) (legal.links.ends e) (ap (λ (vs : List Value). slice_get vs i) (sym (values-linked s e reference)) ∙ here)).0 in
      let same : f ≡ lookups.contents s.metamodel = λ j. record { 0 = eqb-true f.0 (lookups.contents s.metamodel).0 (and_parts _ _ has).1 j } in
      let contains : is_containment s.metamodel f ≡ true = ap (is_containment s.metamodel) same ∙ contents-contains s.metamodel in
      false≢true (all-passing lookups.is_object (values_at s e) i (value.Proxy t) (all-objects s e legal contains) here)

  -- if no proxy is left, no end has a proxy
  pub none-left : proxies_len (reading s) ≡ 0 → HasNoProxy (reading s)
  none-left zero_left e t there = let at = place-of (values_at s e) (value.Proxy t) there in by e.node refl at.0 at.1
    where
      by : (n : Node) → e.node ≡ n → (i : ℕ) → slice_get (values_at s e) i ≡ Some (value.Proxy t) → ⊥
      by (node.Object o) is i at = at-object o e.feature i t zero_left (ap (λ (n : Node). slice_get (values_at s (at_end n e.feature)) i) (sym is) ∙ at)
      by (node.Resource k) is i at = at-resource k e.feature i t (ap (λ (n : Node). slice_get (values_at s (at_end n e.feature)) i) (sym is) ∙ at)
