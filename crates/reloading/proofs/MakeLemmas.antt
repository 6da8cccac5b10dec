-- Making one more resource between loads: nothing refuses it, and everything else stays.
use Rattle.std.proofs.Common.{◌≡◌, ◌∙◌, ℕ, ◌<◌, Bool, true, false, List, [], ◌∷◌, ◌++◌, Option, Some, length, length-append, nat_lt, slice_get, unwrap_or, if◌then◌else◌, arith, refl, sym, ap}
use Rattle.std.specs.Prelude.{IsTrue}
use Rattle.std.specs.List.{IsDistinct}
use Rattle.std.specs.Str.{bytes_eq}
use Rattle.std.proofs.lemmas.Bool.{and_parts, false≢true, true≢false}
use Rattle.std.proofs.lemmas.Bool.Decides.{nat_tests}
use Rattle.std.proofs.lemmas.List.{length-map, map-append}
use Rattle.std.proofs.lemmas.List.Elements.{All-contains}
use Rattle.std.proofs.lemmas.Option.{same_Some}
use Rattle.std.proofs.lemmas.Slice.Eq.{bytes_eq-Decides}
use Rattle.mm_types.specs.Conditions.{◌unless◌, ◌where_so◌, ◌else_by◌}
use Rattle.mm_types.specs.Lookups as lookups
use Rattle.mm_types.specs.declared.limits.TheConstants.{RESOURCES}
use Rattle.mm_types.specs.declared.end.End.{End}
use Rattle.mm_types.specs.declared.numbers.FeatureNo.{FeatureNo}
use Rattle.mm_types.specs.declared.numbers.ObjectNo.{ObjectNo}
use Rattle.mm_types.specs.declared.numbers.ResourceNo.{ResourceNo}
use Rattle.mm_types.specs.declared.refused.Refused.TheVariants.{Limit, ResourceExists, TextLength}
use Rattle.mm_types.specs.declared.value.Value.{Value}
use Rattle.mm_values.specs.Values.{ValuesState}
use Rattle.web_uris.specs.Joined.{IsJoined}
use Rattle.links.specs.Links.{Links, end}
use Rattle.models.specs.Legal.{IsLegal, is_legal_end, is_short_text}
use Rattle.models.specs.Model.{Model, model_of, reading, values_at}
use Rattle.models.specs.Reading.{Reading, has_resource, has_uri, roots_end}
use Rattle.models.specs.Steady.{HasSteadyTexts}
use Rattle.containment.proofs.PartLemmas.{contains-itself, contains-reference, values-linked}
use Rattle.fragment_paths.proofs.AddressLemmas.{named-at}
use Rattle.fragment_paths.proofs.FoundLemmas.{located-object}
use Rattle.fragment_paths.proofs.ImageLemmas.{address-image}
use Rattle.fragment_paths.proofs.InsideLemmas.{contents-contains}
use Rattle.fragment_paths.specs.Fragments.{address}
use Rattle.doc_loader.proofs.SoundLemmas.{any-at, map-at}
use Rattle.round_trip.proofs.ValuesListLemmas.{stands}
use Rattle.mm_meta.proofs.OwnerLemmas.{get_left}
use Rattle.handshake.specs.Effects.{model_after}
use Rattle.handshake.specs.declared.change.Change.TheVariants.{NewResource}
use Rattle.handshake.proofs.AllLemmas.{change-keeps-legal}
use Rattle.reloading.specs.Orders.{IsAllowed, IsMaking, IsSaved, has, is_same, number_of, uri_of}
use Rattle.reloading.proofs.AddressLemmas.{address-inside}
use Rattle.reloading.proofs.LoadedLemmas.{has-address, uri-at}
use Rattle.reloading.proofs.OrderLemmas.{Before, IsOneOf, Last, distinct-last, few-resources, has-before, number-last, one-of, position-append}
use Rattle.reloading.proofs.SoFarLemmas.{HasSoFar, IsCopied, among, numbered}

module _ (s : Model) (legal : IsLegal s) (steady : HasSteadyTexts s) (saved : IsSaved (reading s)) (w : ValuesState) (b : Links) (made filled : List ResourceNo) (so_far : HasSoFar s w b made filled) (k : ResourceNo) (making : IsMaking (reading s) made k) where
  abbrev r : Reading
  r = reading s

  abbrev t : Model
  t = model_of s.metamodel w b

  abbrev uri : List ℕ
  uri = uri_of (reading s) k

  abbrev u : Model
  u = model_after (model_of s.metamodel w b) (NewResource (uri_of (reading s) k))

  abbrev more : List ResourceNo
  more = made ++ k ∷ []

  uri-is : slice_get s.values.uris k.0 ≡ Some uri
  uri-is = uri-at s legal steady saved k making.there

  more-there : (j : ResourceNo) → has more j ≡ true → has_resource r j ≡ true
  more-there j h = by (one-of made k j h)
    where
      by : IsOneOf made k j → has_resource r j ≡ true
      by (Before before) = so_far.there j before
      by (Last last) = ap (has_resource r) last ∙ making.there

  more-once : IsDistinct is_same more
  more-once = distinct-last made k so_far.once making.new

  ---------------------------------------------------------------- nothing refuses it

  pub uri-short : is_short_text uri ≡ true
  uri-short = All-contains (λ x. IsTrue (is_short_text x)) s.values.uris uri legal.uris.short (stands s.values.uris k.0 uri uri-is)

  pub room : nat_lt (length w.uris) RESOURCES ≡ true
  room =
      let few = few-resources s more more-once more-there in
      let most = legal.uris.count in
      let long = length-append made (k ∷ []) in
      let same = ap (λ (us : List (List ℕ)). length us) so_far.uris ∙ length-map made (uri_of r) in
      grind (arith, nat_tests)

  pub uri-new : has_uri (reading t) uri ≡ false
  uri-new =
      elim (has_uri (reading t) uri) as (λ x. has_uri (reading t) uri ≡ x → x ≡ false) [
        | true ↦ λ h.
            let x = any-at (bytes_eq uri) w.uris h in
            let j = map-at (uri_of r) made x.0 x.1 (ap (λ (us : List (List ℕ)). slice_get us x.0) (sym so_far.uris) ∙ x.2) in
            let before = among made x.0 j.0 j.1 in
            let same : uri_of r j.0 ≡ uri = j.2 ∙ sym ((bytes_eq-Decides uri x.1).0 x.3) in
            let one = named-at r j.0 uri legal.uris.distinct (uri-at s legal steady saved j.0 (so_far.there j.0 before) ∙ ap (λ (y : List ℕ). Some y) same) in
            let two = named-at r k uri legal.uris.distinct uri-is in
            let own : j.0 ≡ k = same_Some j.0 k (sym one ∙ two) in
            absurd (true≢false (sym (ap (has made) (sym own) ∙ before) ∙ making.new))
        | false ↦ λ _. refl
      ] refl

  pub make-allowed : IsAllowed t (NewResource uri)
  make-allowed = record {
    early = refl;
    late = λ i.
        TextLength unless uri-short i else_by
        Limit unless room i else_by
        ResourceExists where_so uri-new i;
  }

  ---------------------------------------------------------------- what is after it

  now-uris : u.values.uris ≡ w.uris ++ uri ∷ []
  now-uris = ap (λ (x : Bool). if x then w.uris else w.uris ++ uri ∷ []) uri-new

  u-legal : IsLegal u
  u-legal = change-keeps-legal t (NewResource uri) so_far.legal make-allowed.early make-allowed.late tt (All-contains IsJoined s.values.uris uri legal.uris.joined (stands s.values.uris k.0 uri uri-is))

  number-same : (j : ResourceNo) → has made j ≡ true → number_of more j ≡ number_of made j
  number-same j before = ap (λ (x : Option ℕ). record { 0 = unwrap_or x 0 }) (position-append (is_same j) made (k ∷ []) (number_of made j).0 (numbered made j before).found ∙ sym (numbered made j before).found)

  -- an object that has an address keeps it
  address-same : (p : ObjectNo) (a : List ℕ) → address (reading t) p ≡ Some a → address (reading u) p ≡ address (reading t) p
  address-same p a is =
      let at = address-inside t p a is in
      let low : at.0.0 < length w.uris = (let there = (located-object t so_far.legal p at.0 at.1).there in grind (arith, nat_tests, there)) in
      address-image s.metamodel w u.values b b so_far.legal u-legal at.0 at.0 (λ q. q) (λ i c here. here) (λ q f i c within contains here. here) refl
      (ap (λ (us : List (List ℕ)). slice_get us at.0.0) now-uris ∙ get_left w.uris (uri ∷ []) at.0.0 low) p at.1

  copied-still : (j : ResourceNo) → has filled j ≡ true → IsCopied r j (number_of more j) (so_far.base j) (reading u)
  copied-still j loaded =
      let old = so_far.copies j loaded in
      record {
        classes = old.classes;
        values = old.values;
        flags = old.flags;
        roots = ap (λ (x : ResourceNo). values_at t (roots_end r x)) (number-same j (so_far.filled_made j loaded)) ∙ old.roots;
        addresses = λ o inside. (let a = has-address s legal steady saved j o inside in address-same _ a.0 (old.addresses o inside ∙ a.1) ∙ old.addresses o inside);
        below = old.below;
      }

  -- a resource that did not exist has no roots
  none-there : (j : ResourceNo) → has_resource (reading t) j ≡ false → values_at t (roots_end r j) ≡ []
  none-there j away = values-linked t e (contains-reference s.metamodel f f (contains-itself f _ (contents-contains s.metamodel))) ∙ by (end b e) (so_far.legal.links.ends e)
    where
      f : FeatureNo
      f = lookups.contents s.metamodel

      e : End
      e = roots_end r j

      by : (vs : List Value) → IsTrue (is_legal_end (reading t) (roots_end r j) vs) → vs ≡ []
      by [] h = refl
      by (v ∷ vs) h = absurd (false≢true (sym away ∙ (and_parts _ _ (and_parts _ _ h).0).0))

  now-empty : (j : ResourceNo) → has more j ≡ true → has filled j ≡ false → values_at u (roots_end r (number_of more j)) ≡ []
  now-empty j h unfilled = by (one-of made k j h)
    where
      by : IsOneOf made k j → values_at u (roots_end r (number_of more j)) ≡ []
      by (Before before) = ap (λ (x : ResourceNo). values_at t (roots_end r x)) (number-same j before) ∙ so_far.empty j before unfilled
      by (Last last) =
          let number : number_of more j ≡ record { 0 = length made } = ap (number_of more) last ∙ number-last made k making.new in
          let same = ap (λ (us : List (List ℕ)). length us) so_far.uris ∙ length-map made (uri_of r) in
          let away : nat_lt (length made) (length w.uris) ≡ false = grind (arith, nat_tests) in
          ap (λ (x : ResourceNo). values_at t (roots_end r x)) number ∙ none-there (record { 0 = length made }) away

  pub made-so-far : HasSoFar s u.values u.links more filled
  made-so-far = record {
    legal = u-legal;
    uris = now-uris ∙ ap (λ (us : List (List ℕ)). us ++ uri ∷ []) so_far.uris ∙ sym (map-append (uri_of r) made (k ∷ []));
    once = more-once;
    there = more-there;
    filled_once = so_far.filled_once;
    filled_made = λ j h. has-before made k j (so_far.filled_made j h);
    empty = now-empty;
    base = so_far.base;
    copies = copied-still;
    only = so_far.only;
    count = so_far.count;
  }
