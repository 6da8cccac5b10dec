-- After all resources of a model without proxies were loaded, the result is that model, partly resolved.
use Rattle.std.proofs.Common.{◌≡◌, ◌∙◌, ℕ, zero, suc, Bool, true, false, not, List, [], ◌∷◌, Option, Some, None, is_some, length, map, nat_eq, nat_lt, slice_get, unwrap_or, eq-eqb, eqb-true, arith, refl, sym, ap}
use Rattle.std.specs.Prelude.{Contains, option_and_then, position}
use Rattle.std.specs.Option.{option_map_or}
use Rattle.std.specs.Str.{bytes_eq}
use Rattle.std.proofs.lemmas.Bool.{false≢true, true≢false}
use Rattle.std.proofs.lemmas.Bool.Decides.{nat_tests}
use Rattle.std.proofs.lemmas.Option.{none-some, same_Some, slice_get_within}
use Rattle.mm_types.specs.Ends.{has_value, index_in}
use Rattle.mm_types.specs.Lookups as lookups
use Rattle.mm_types.specs.Same.{same_object}
use Rattle.mm_types.specs.declared.numbers.FeatureNo.{FeatureNo}
use Rattle.mm_types.specs.declared.numbers.Node.TheVariants as node
use Rattle.mm_types.specs.declared.numbers.ObjectNo.{ObjectNo}
use Rattle.mm_types.specs.declared.numbers.ResourceNo.{ResourceNo}
use Rattle.mm_types.specs.declared.value.Value.{Value}
use Rattle.mm_types.specs.declared.value.Value.TheVariants as value
use Rattle.mm_values.specs.Values.{ValuesState}
use Rattle.links.specs.Holders.{above}
use Rattle.links.specs.Links.{Links, end, text_of}
use Rattle.links.proofs.SideLemmas.{both_ends_agree}
use Rattle.links.proofs.RankLemmas.{same-tests}
use Rattle.models.specs.Legal.{IsLegal, kinds_of}
use Rattle.models.specs.Model.{Model, model_of, reading, values_at}
use Rattle.models.specs.Reading.{Reading, at_end, has_resource, has_uri, is_live, object_of, roots_end}
use Rattle.models.specs.Steady.{HasSteadyTexts}
use Rattle.models.proofs.PlaceLemmas.{has-at, index-at}
use Rattle.containment.proofs.PartLemmas.{holder-at, kinds-are, live-made, values-linked}
use Rattle.containment.specs.Above.{resource_of}
use Rattle.fragment_paths.proofs.AddressLemmas.{named-at, object-found}
use Rattle.fragment_paths.proofs.FoundLemmas.{located-object}
use Rattle.fragment_paths.proofs.InsideLemmas.{contents-contains}
use Rattle.fragment_paths.proofs.StayLemmas.{one-address}
use Rattle.fragment_paths.proofs.UpLemmas.{resource-part, resource-root}
use Rattle.fragment_paths.specs.Finding.{at}
use Rattle.fragment_paths.specs.Fragments.{address}
use Rattle.doc_writer.specs.Written.{objects_in, written_features}
use Rattle.doc_loader.specs.Loading.{loaded_value}
use Rattle.doc_loader.proofs.SideLemmas.{opposite-reference}
use Rattle.doc_loader.proofs.SoundLemmas.{any-at, at-map, map-at}
use Rattle.round_trip.specs.Readable.{IsReadable}
use Rattle.round_trip.proofs.DocumentLemmas.{parts-saved}
use Rattle.round_trip.proofs.InsideLemmas.{inside-written, written-inside}
use Rattle.round_trip.proofs.LeadsLemmas.{leads-back}
use Rattle.round_trip.proofs.ListLemmas.{any-in, each-at, map-each, map-twice}
use Rattle.round_trip.proofs.NamedLemmas.{Addressed, IsNamed, Numbered, named}
use Rattle.round_trip.proofs.OrderLemmas.{position-there}
use Rattle.round_trip.proofs.ReadAsLemmas.{all-read}
use Rattle.round_trip.proofs.ShapeLemmas.{live-inside}
use Rattle.round_trip.proofs.ValuesListLemmas.{place-of, stands}
use Rattle.reloading.specs.Addressed.{By, meant_value}
use Rattle.reloading.specs.Alike.{HasSame, HaveSame, IsThere}
use Rattle.reloading.specs.Between.{AreBothOrNone, Between, has_proxy}
use Rattle.reloading.specs.Images.{image, value_image}
use Rattle.reloading.specs.Orders.{IsSaved, has, is_same, number_of, uri_of}
use Rattle.reloading.proofs.AddressLemmas.{address-inside}
use Rattle.reloading.proofs.ContainerLemmas.{Held, IsContainerReference, IsHeldBy, Nobody, container-reference, held-by, who-holds}
use Rattle.reloading.proofs.DocumentLemmas.{reference-written}
use Rattle.reloading.proofs.NumberLemmas.{place-in, value-inside}
use Rattle.doc_writer.proofs.PlainLemmas.{reference-of}
use Rattle.reloading.proofs.SoFarLemmas.{HasSoFar, among, numbered}

---------------------------------------------------------------- what was saved

some-at : {X : Type 0} (xs : List X) (i : ℕ) (d : X) → nat_lt i (length xs) ≡ true → slice_get xs i ≡ Some (unwrap_or (slice_get xs i) d)
some-at [] i d low = absurd (false≢true (let high : nat_lt i 0 ≡ false = grind (arith, nat_tests) in sym high ∙ low))
some-at (x ∷ xs) zero d low = refl
some-at (x ∷ xs) (suc i) d low = some-at xs i d (let less : nat_lt i (length xs) ≡ true = grind (arith, nat_tests, low) in less)

module _ (s : Model) (legal : IsLegal s) (steady : HasSteadyTexts s) (saved : IsSaved (reading s)) where
  abbrev r : Reading
  r = reading s

  pub uri-at : (k : ResourceNo) → has_resource r k ≡ true → slice_get s.values.uris k.0 ≡ Some (uri_of r k)
  uri-at k there = some-at s.values.uris k.0 [] there

  pub readable : (k : ResourceNo) → has_resource r k ≡ true → IsReadable r k (uri_of r k)
  readable k there = record {
    there = uri-at k there;
    allowed = saved.allowed k there;
    short = λ o refers. saved.short k o there refers;
    short_proxies = λ t h. absurd (saved.resolved (at_end (node.Object h.object) h.feature) t h.there);
    elsewhere = λ t h same. saved.resolved (at_end (node.Object h.object) h.feature) t h.there;
    none_twice = λ o f b t inside object proxy other address. saved.resolved (at_end (node.Object o) f) t proxy;
  }

  pub inside-there : (k : ResourceNo) (o : ObjectNo) → resource_of (above s.links) o ≡ Some k → has_resource r k ≡ true
  inside-there k o inside = (located-object s legal o k inside).there

  pub has-address : (k : ResourceNo) (o : ObjectNo) → resource_of (above s.links) o ≡ Some k → (a : List ℕ) × (address r o ≡ Some a)
  has-address k o inside = by (address r o) refl (object-found s legal o k inside).by_address
    where
      by : (x : Option (List ℕ)) → address r o ≡ x → option_and_then (at r) x ≡ Some o → (a : List ℕ) × (address r o ≡ Some a)
      by None is h = absurd (none-some o h)
      by (Some a) is h = (a, is)

  -- an object under a feature of an object of a resource has an address
  value-address : (k : ResourceNo) (o : ObjectNo) (f : FeatureNo) (i : ℕ) (c : ObjectNo) → resource_of (above s.links) o ≡ Some k → slice_get (values_at s (at_end (node.Object o) f)) i ≡ Some (value.Object c) → (a : List ℕ) × (address r c ≡ Some a)
  value-address k o f i c inside here =
      let reference = reference-of s legal (at_end (node.Object o) f) i (value.Object c) here refl in
      elim (lookups.is_container s.metamodel f) as (λ b. lookups.is_container s.metamodel f ≡ b → (a : List ℕ) × (address r c ≡ Some a)) [
        | true ↦ λ container. of-holder container
        | false ↦ λ plain. of-named (reference-written s legal o f i (value.Object c) reference plain here)
      ] refl
    where
      only : (vs : List Value) (h : ObjectNo) (j : ℕ) → vs ≡ value.Object h ∷ [] → slice_get vs j ≡ Some (value.Object c) → value.Object h ≡ value.Object c
      only vs h j is there = first j (ap (λ (ws : List Value). slice_get ws j) (sym is) ∙ there)
        where
          first : (j : ℕ) → slice_get (value.Object h ∷ []) j ≡ Some (value.Object c) → value.Object h ≡ value.Object c
          first zero at_first = same_Some (value.Object h) (value.Object c) at_first
          first (suc j) at_later = absurd (none-some (value.Object c) at_later)

      of-holder : lookups.is_container s.metamodel f ≡ true → (a : List ℕ) × (address r c ≡ Some a)
      of-holder container = by (who-holds s legal f is o)
        where
          is : IsContainerReference s.metamodel f
          is = container-reference s.metamodel legal.metamodel f container

          by : IsHeldBy s legal f is o → (a : List ℕ) × (address r c ≡ Some a)
          by (Nobody nothing) = absurd (none-some (value.Object c) (ap (λ (vs : List Value). slice_get vs i) (sym nothing) ∙ here))
          by (Held h up) =
              let own = has-address k h (sym (resource-part s legal o (at_end (node.Object h) is.opposite) h up refl) ∙ inside) in
              (own.0, sym (ap (λ (v : Value). option_and_then (address r) (object_of v)) (only (values_at s (at_end (node.Object o) f)) h i (held-by s legal f is o h up) here)) ∙ own.1)

      of-named : Contains (written_features r o) f → (a : List ℕ) × (address r c ≡ Some a)
      of-named written =
          let there = inside-there k o inside in
          let fine = readable k there in
          let leads = leads-back s legal steady k (uri_of r k) fine.there in
          let parts = parts-saved s legal k in
          by (named s legal k (uri_of r k) leads fine (all-read s legal steady k (uri_of r k) parts leads fine) o f c i (inside-written s legal k o inside) written here)
        where
          by : IsNamed r k c → (a : List ℕ) × (address r c ≡ Some a)
          by (Numbered n is) = has-address k c (written-inside s legal k c (stands (objects_in r k) n c (position-there (objects_in r k) c n is)))
          by (Addressed x) = (x.text, x.is)

  ---------------------------------------------------------------- what is had

  module _ (w : ValuesState) (b : Links) (made filled : List ResourceNo) (so_far : HasSoFar s w b made filled) (all : (k : ResourceNo) → has_resource (reading s) k ≡ true → has filled k ≡ true) where
    abbrev t : Model
    t = model_of s.metamodel w b

    abbrev base : ResourceNo → ℕ
    base = so_far.base

    abbrev number : ResourceNo → ResourceNo
    number k = number_of made k

    abbrev new : ResourceNo → ObjectNo → ObjectNo
    new k = image (reading s) k (base k)

    abbrev as_new : ResourceNo → Value → Value
    as_new k = value_image (reading s) k (base k)

    at-uri : (k : ResourceNo) → has made k ≡ true → slice_get w.uris (number k).0 ≡ Some (uri_of r k)
    at-uri k there = ap (λ (us : List (List ℕ)). slice_get us (number k).0) so_far.uris ∙ at-map (uri_of r) made (number k).0 k (numbered made k there).there

    uris-same : (u : List ℕ) → has_uri (reading t) u ≡ has_uri r u
    uris-same u = same-tests (has_uri (reading t) u) (has_uri r u) to from
      where
        to : has_uri (reading t) u ≡ true → has_uri r u ≡ true
        to h =
            let x = any-at (bytes_eq u) w.uris h in
            let k = map-at (uri_of r) made x.0 x.1 (ap (λ (us : List (List ℕ)). slice_get us x.0) (sym so_far.uris) ∙ x.2) in
            let there = uri-at k.0 (so_far.there k.0 (among made x.0 k.0 k.1)) in
            any-in (bytes_eq u) s.values.uris (uri_of r k.0) (stands s.values.uris k.0.0 (uri_of r k.0) there) (ap (bytes_eq u) k.2 ∙ x.3)

        from : has_uri r u ≡ true → has_uri (reading t) u ≡ true
        from h =
            let x = any-at (bytes_eq u) s.values.uris h in
            let k : ResourceNo = record { 0 = x.0 } in
            let there : has_resource r k ≡ true = some-low s.values.uris x.0 x.1 x.2 in
            let own : uri_of r k ≡ x.1 = same_Some (uri_of r k) x.1 (sym (uri-at k there) ∙ x.2) in
            any-in (bytes_eq u) w.uris (uri_of r k) (stands w.uris (number k).0 (uri_of r k) (at-uri k (so_far.filled_made k (all k there)))) (ap (bytes_eq u) own ∙ x.3)
          where
            some-low : {X : Type 0} (xs : List X) (i : ℕ) (x : X) → slice_get xs i ≡ Some x → nat_lt i (length xs) ≡ true
            some-low xs i x at_i = let low = slice_get_within xs i x at_i in grind (arith, nat_tests)

    ---------------------------------------------------------------- what values mean

    object-means : (k : ResourceNo) (c : ObjectNo) (a : List ℕ) → has filled k ≡ true → address r c ≡ Some a → meant_value (reading t) (as_new k (value.Object c)) ≡ By (address r c)
    object-means k c a loaded is = by (position (same_object c) (objects_in r k)) refl
      where
        by : (q : Option ℕ) → position (same_object c) (objects_in r k) ≡ q → meant_value (reading t) (as_new k (value.Object c)) ≡ By (address r c)
        by (Some n) at_n =
            let inside = written-inside s legal k c (stands (objects_in r k) n c (position-there (objects_in r k) c n at_n)) in
            ap (meant_value (reading t)) (value-inside s legal k (base k) c inside) ∙ ap By ((so_far.copies k loaded).addresses c inside)
        by None nowhere =
            ap (λ (x : Option ℕ). meant_value (reading t) (loaded_value (base k) (option_map_or (λ i. value.Object (record { 0 = i })) x (value.Proxy (unwrap_or (address r c) []))))) nowhere
            ∙ ap (λ (x : Option (List ℕ)). By (Some (unwrap_or x []))) is ∙ ap By (sym is)

    -- a value of an object means the same as before
    value-means : (k : ResourceNo) (v : Value) → has filled k ≡ true → ((c : ObjectNo) → v ≡ value.Object c → (a : List ℕ) × (address r c ≡ Some a)) → meant_value (reading t) (as_new k v) ≡ meant_value r v
    value-means k (value.Object c) loaded known = let a = known c refl in object-means k c a.0 loaded a.1
    value-means k (value.Proxy u) loaded known = refl
    value-means k value.Null loaded known = refl
    value-means k (value.Bool x) loaded known = refl
    value-means k (value.Int x) loaded known = refl
    value-means k (value.Text x) loaded known = refl
    value-means k (value.Literal x) loaded known = refl

    values-mean : (k : ResourceNo) (o : ObjectNo) (f : FeatureNo) → has filled k ≡ true → resource_of (above s.links) o ≡ Some k
        → map (meant_value (reading t)) (values_at t (at_end (node.Object (new k o)) f)) ≡ map (meant_value r) (values_at s (at_end (node.Object o) f))
    values-mean k o f loaded inside =
        let vs = values_at s (at_end (node.Object o) f) in
        ap (map (meant_value (reading t))) ((so_far.copies k loaded).values o f inside)
        ∙ map-twice (as_new k) (meant_value (reading t)) vs
        ∙ map-each (λ v. meant_value (reading t) (as_new k v)) (meant_value r) vs (each-at _ vs (λ i v here. value-means k v loaded (λ c is. value-address k o f i c inside (here ∙ ap (λ (x : Value). Some x) is))))

    roots-mean : (k : ResourceNo) → has filled k ≡ true → map (meant_value (reading t)) (values_at t (roots_end r (number k))) ≡ map (meant_value r) (values_at s (roots_end r k))
    roots-mean k loaded =
        let e = roots_end r k in
        let vs = values_at s e in
        ap (map (meant_value (reading t))) (so_far.copies k loaded).roots
        ∙ map-twice (as_new k) (meant_value (reading t)) vs
        ∙ map-each (λ v. meant_value (reading t) (as_new k v)) (meant_value r) vs (each-at _ vs (λ i v here. value-means k v loaded (λ c is.
        has-address k c (resource-root s legal c e k (holder-at s legal (node.Resource k) (lookups.contents s.metamodel) (contents-contains s.metamodel) i c (here ∙ ap (λ (x : Value). Some x) is)) refl))))

    ---------------------------------------------------------------- what is where

    same-at : (k : ResourceNo) (o : ObjectNo) → has filled k ≡ true → resource_of (above s.links) o ≡ Some k → HasSame meant_value r (reading t) o (new k o)
    same-at k o loaded inside = record {
      class = (so_far.copies k loaded).classes o inside;
      values = λ f. values-mean k o f loaded inside;
      flags = λ f. (so_far.copies k loaded).flags o f inside;
    }

    filled-of : (k : ResourceNo) (o : ObjectNo) → resource_of (above s.links) o ≡ Some k → has filled k ≡ true
    filled-of k o inside = all k (inside-there k o inside)

    there-now : (o : ObjectNo) (a : List ℕ) → address r o ≡ Some a → IsThere meant_value r (reading t) o a
    there-now o a is =
        let in_it = address-inside s o a is in
        let loaded = filled-of in_it.0 o in_it.1 in
        record { object = new in_it.0 o; at = (so_far.copies in_it.0 loaded).addresses o in_it.1 ∙ is; same = same-at in_it.0 o loaded in_it.1 }

    -- each object is the image of an object, and has its address
    from-live : (p : ObjectNo) → is_live (reading t) p ≡ true → (o : ObjectNo) × (address (reading t) p ≡ address r o) × (a : List ℕ) × (address r o ≡ Some a)
    from-live p live =
        let x = so_far.only p (live-made t p live) in
        let a = has-address x.resource x.object x.inside in
        (x.object, ap (address (reading t)) x.is ∙ (so_far.copies x.resource x.loaded).addresses x.object x.inside, a.0, a.1)

    back-now : (p : ObjectNo) (a : List ℕ) → address (reading t) p ≡ Some a → (o : ObjectNo) × (address r o ≡ Some a)
    back-now p a is =
        let in_it = address-inside t p a is in
        let x = from-live p (live-inside t so_far.legal p in_it.0 in_it.1) in
        (x.0, sym x.1 ∙ is)

    inside-now : (p : ObjectNo) → is_live (reading t) p ≡ true → is_some (address (reading t) p) ≡ true
    inside-now p live = let x = from-live p live in ap (λ (y : Option (List ℕ)). is_some y) (x.1 ∙ x.3)

    roots-now : (u : List ℕ) (k j : ResourceNo) → slice_get s.values.uris k.0 ≡ Some u → slice_get w.uris j.0 ≡ Some u → map (meant_value (reading t)) (values_at t (roots_end r j)) ≡ map (meant_value r) (values_at s (roots_end r k))
    roots-now u k j first second =
        let there : has_resource r k ≡ true = (let low = slice_get_within s.values.uris k.0 u first in grind (arith, nat_tests)) in
        let loaded = all k there in
        let own : uri_of r k ≡ u = same_Some (uri_of r k) u (sym (uri-at k there) ∙ first) in
        let one = named-at (reading t) (number k) u so_far.legal.uris.distinct (at-uri k (so_far.filled_made k loaded) ∙ ap (λ (x : List ℕ). Some x) own) in
        let two = named-at (reading t) j u so_far.legal.uris.distinct second in
        let same : j ≡ number k = same_Some j (number k) (sym two ∙ one) in
        ap (λ (x : ResourceNo). map (meant_value (reading t)) (values_at t (roots_end r x))) same ∙ roots-mean k loaded

    all-same : HaveSame meant_value r (reading t)
    all-same = record { uris = uris-same; roots = roots-now; there = there-now; back = back-now }

    ---------------------------------------------------------------- pairs

    proxy-value : (k : ResourceNo) (v : Value) (y : List ℕ) → as_new k v ≡ value.Proxy y → ((u : List ℕ) → v ≡ value.Proxy u → ⊥) → (c : ObjectNo) × (v ≡ value.Object c) × (position (same_object c) (objects_in r k) ≡ None) × (unwrap_or (address r c) [] ≡ y)
    proxy-value k (value.Object c) y is no_proxy = by (position (same_object c) (objects_in r k)) refl is
      where
        by : (q : Option ℕ) → position (same_object c) (objects_in r k) ≡ q → loaded_value (base k) (option_map_or (λ i. value.Object (record { 0 = i })) q (value.Proxy (unwrap_or (address r c) []))) ≡ value.Proxy y
            → (d : ObjectNo) × (value.Object c ≡ value.Object d) × (position (same_object d) (objects_in r k) ≡ None) × (unwrap_or (address r d) [] ≡ y)
        by None nowhere h = (c, refl, nowhere, same_Some (unwrap_or (address r c) []) y (ap text_of h))
        by (Some n) there h = absurd (true≢false (ap lookups.is_object h))
    proxy-value k (value.Proxy u) y is no_proxy = absurd (no_proxy u refl)
    proxy-value k value.Null y is no_proxy = absurd (none-some y (ap text_of is))
    proxy-value k (value.Bool x) y is no_proxy = absurd (none-some y (ap text_of is))
    proxy-value k (value.Int x) y is no_proxy = absurd (none-some y (ap text_of is))
    proxy-value k (value.Text x) y is no_proxy = absurd (none-some y (ap text_of is))
    proxy-value k (value.Literal x) y is no_proxy = absurd (none-some y (ap text_of is))

    -- an object of the resource has a number there
    some-position : (k : ResourceNo) (c : ObjectNo) → resource_of (above s.links) c ≡ Some k → position (same_object c) (objects_in r k) ≡ None → ⊥
    some-position k c inside nowhere = let place = place-in s legal k c inside in none-some place.number (sym nowhere ∙ place.found)

    -- an object that refers to an object of another resource has a proxy of it
    across : (f : FeatureNo) (o c : ObjectNo) (k j : ResourceNo) (y : List ℕ) → Contains (values_at s (at_end (node.Object o) f)) (value.Object c) → resource_of (above s.links) o ≡ Some k → resource_of (above s.links) c ≡ Some j → address r c ≡ Some y
        → has_proxy (reading t) (new k o) f y ≡ not (is_same k j)
    across f o c k j y contains inside far is =
        ap (λ (us : List Value). has_value us (value.Proxy y)) ((so_far.copies k (filled-of k o inside)).values o f inside)
        ∙ elim (is_same k j) as (λ x. is_same k j ≡ x → has_value (map (as_new k) vs) (value.Proxy y) ≡ not x) [
          | true ↦ λ same.
              let one : k ≡ j = λ i. record { 0 = eqb-true k.0 j.0 same i } in
              elim (has_value (map (as_new k) vs) (value.Proxy y)) as (λ x. has_value (map (as_new k) vs) (value.Proxy y) ≡ x → x ≡ false) [
                | true ↦ λ h.
                    let i = index_in (map (as_new k) vs) (value.Proxy y) in
                    let x = map-at (as_new k) vs i (value.Proxy y) (index-at (map (as_new k) vs) (value.Proxy y) h) in
                    let d = proxy-value k x.0 y x.2 (λ u q. saved.resolved (at_end (node.Object o) f) u (stands vs i (value.Proxy u) (x.1 ∙ ap (λ (z : Value). Some z) q))) in
                    let a = value-address k o f i d.0 inside (x.1 ∙ ap (λ (z : Value). Some z) d.1) in
                    let text : a.0 ≡ y = sym (ap (λ (z : Option (List ℕ)). unwrap_or z []) a.1) ∙ d.3 in
                    let own : d.0 ≡ c = one-address s legal d.0 c y (a.1 ∙ ap (λ (z : List ℕ). Some z) text) is in
                    absurd (some-position k d.0 (ap (resource_of (above s.links)) own ∙ far ∙ ap (λ (z : ResourceNo). Some z) (sym one)) d.2)
                | false ↦ λ _. refl
              ] refl
          | false ↦ λ apart.
              let p = place-of vs (value.Object c) contains in
              let proxy : as_new k (value.Object c) ≡ value.Proxy y = as-proxy (position (same_object c) (objects_in r k)) refl apart in
              has-at (map (as_new k) vs) (value.Proxy y) p.0 (at-map (as_new k) vs p.0 (value.Object c) p.1 ∙ ap (λ (z : Value). Some z) proxy)
        ] refl
      where
        vs : List Value
        vs = values_at s (at_end (node.Object o) f)

        as-proxy : (q : Option ℕ) → position (same_object c) (objects_in r k) ≡ q → is_same k j ≡ false → as_new k (value.Object c) ≡ value.Proxy y
        as-proxy None nowhere apart =
            ap (λ (x : Option ℕ). loaded_value (base k) (option_map_or (λ i. value.Object (record { 0 = i })) x (value.Proxy (unwrap_or (address r c) [])))) nowhere ∙ ap (λ (x : Option (List ℕ)). value.Proxy (unwrap_or x [])) is
        as-proxy (Some n) there apart =
            let inside_k = written-inside s legal k c (stands (objects_in r k) n c (position-there (objects_in r k) c n there)) in
            let same : k ≡ j = same_Some k j (sym inside_k ∙ far) in
            absurd (false≢true (sym apart ∙ eq-eqb k.0 j.0 (ap (λ (x : ResourceNo). x.0) same)))

    turned : (k j : ResourceNo) → is_same k j ≡ is_same j k
    turned k j = let x = k.0 in let y = j.0 in by x y
      where
        by : (x y : ℕ) → nat_eq x y ≡ nat_eq y x
        by x y = grind (arith, nat_tests)

    pairs-now : AreBothOrNone r (reading t)
    pairs-now f g o c p q x y pair contains at_o at_c now_p now_q =
        let k = address-inside s o x at_o in
        let j = address-inside s c y at_c in
        let far = both_ends_agree (kinds_of s.metamodel) s.links legal.links.set legal.links.kinds (at_end (node.Object o) f) (at_end (node.Object c) g) pair (linked-there (place-of (values_at s (at_end (node.Object o) f)) (value.Object c) contains)) in
        let back : Contains (values_at s (at_end (node.Object c) g)) (value.Object o) =
        stands (values_at s (at_end (node.Object c) g)) far.0 (value.Object o) (ap (λ (vs : List Value). slice_get vs far.0) (values-linked s (at_end (node.Object c) g) (opposite-reference s.metamodel g f ((kinds-are s.metamodel legal.metamodel).inverse f g pair))) ∙ far.1) in
        let here : p ≡ new k.0 o = one-address t so_far.legal p (new k.0 o) x now_p ((so_far.copies k.0 (filled-of k.0 o k.1)).addresses o k.1 ∙ at_o) in
        let there : q ≡ new j.0 c = one-address t so_far.legal q (new j.0 c) y now_q ((so_far.copies j.0 (filled-of j.0 c j.1)).addresses c j.1 ∙ at_c) in
        ap (λ (z : ObjectNo). has_proxy (reading t) z f y) here ∙ across f o c k.0 j.0 y contains k.1 j.1 at_c
        ∙ ap not (turned k.0 j.0)
        ∙ sym (ap (λ (z : ObjectNo). has_proxy (reading t) z g x) there ∙ across g c o j.0 k.0 x back j.1 k.1 at_o)
      where
        linked-there : (i : ℕ) × (slice_get (values_at s (at_end (node.Object o) f)) i ≡ Some (value.Object c)) → (i : ℕ) × (slice_get (end s.links (at_end (node.Object o) f)) i ≡ Some (value.Object c))
        linked-there (i, at_i) = (i, ap (λ (vs : List Value). slice_get vs i) (sym (values-linked s (at_end (node.Object o) f) (opposite-reference s.metamodel f g pair))) ∙ at_i)

    pub loaded-between : Between r (reading t)
    loaded-between = record { same = all-same; pairs = pairs-now; inside = inside-now }
