-- Loading the document of one more resource: nothing refuses it, its objects have their images, and everything else stays.
use Rattle.std.proofs.Common.{◌≡◌, ◌∙◌, ℕ, zero, suc, ◌+◌, ◌<◌, ◌≤◌, Bool, true, false, List, [], ◌∷◌, ◌++◌, Some, append-nil, flat_map, length, length-append, map, nat_le, nat_lt, slice_get, if◌then◌else◌, arith, eq-eqb, eqb-true, refl, sym, ap, subst}
use Rattle.std.specs.Prelude.{is_some}
use Rattle.std.specs.List.{IsDistinct}
use Rattle.std.proofs.lemmas.Bool.{false≢true, true≢false}
use Rattle.std.proofs.lemmas.Bool.Decides.{nat_tests}
use Rattle.std.proofs.lemmas.Grind.{flat_map-append}
use Rattle.std.proofs.lemmas.List.{length-map}
use Rattle.std.proofs.lemmas.Option.{none-some, same_Some, slice_get_within}
use Rattle.mm_types.specs.Conditions.{◌unless◌, ◌else_by◌}
use Rattle.mm_types.specs.Same.{is_nil}
use Rattle.mm_types.specs.declared.limits.TheConstants.{OBJECTS}
use Rattle.mm_types.specs.declared.numbers.FeatureNo.{FeatureNo}
use Rattle.mm_types.specs.declared.numbers.Node.TheVariants as node
use Rattle.mm_types.specs.declared.numbers.ObjectNo.{ObjectNo}
use Rattle.mm_types.specs.declared.numbers.ResourceNo.{ResourceNo}
use Rattle.mm_types.specs.declared.refused.Refused.TheVariants.{Limit, NoObject, NoResource, NotEmpty}
use Rattle.mm_values.specs.Values.{ValuesState}
use Rattle.links.specs.Links.{Links}
use Rattle.models.specs.Legal.{IsLegal}
use Rattle.models.specs.Model.{Model, model_of, reading, values_at}
use Rattle.models.specs.Reading.{Reading, at_end, has_resource, roots_end}
use Rattle.models.specs.Steady.{HasSteadyTexts}
use Rattle.containment.proofs.PartLemmas.{live-made}
use Rattle.containment.specs.Above.{resource_of_node, resource_of}
use Rattle.doc_writer.specs.Written.{objects_in}
use Rattle.resource_docs.specs.declared.doc.Doc.{Doc}
use Rattle.round_trip.specs.Copied.{copied_document, object_copied}
use Rattle.round_trip.proofs.ShapeLemmas.{live-inside}
use Rattle.handshake.specs.Effects.{model_after}
use Rattle.handshake.specs.Loaded.{IsLoaded}
use Rattle.handshake.specs.Changes.{IsDocument}
use Rattle.handshake.specs.declared.change.Change.TheVariants.{Load}
use Rattle.handshake.proofs.LoadedLemmas.{loads-ends}
use Rattle.reloading.specs.Images.{HasImages, image}
use Rattle.reloading.specs.Orders.{IsAllowed, IsFilling, IsSaved, has, is_same, number_of, uri_of}
use Rattle.reloading.proofs.AddressLemmas.{address-kept, loaded-legal, old-object}
use Rattle.reloading.proofs.ImageLemmas.{load-images}
use Rattle.reloading.proofs.LoadedLemmas.{has-address, readable, uri-at}
use Rattle.reloading.proofs.OrderLemmas.{Before, IsOneOf, Last, distinct-last, few-objects, has-before, has-own, not-of, one-of, self}
use Rattle.reloading.proofs.SavedLemmas.{saved-document}
use Rattle.reloading.proofs.SoFarLemmas.{HasSoFar, IsCopied, IsImageOf, numbered}

module _ (s : Model) (legal : IsLegal s) (steady : HasSteadyTexts s) (saved : IsSaved (reading s))
    (w : ValuesState) (b : Links) (made filled : List ResourceNo) (so_far : HasSoFar s w b made filled) (k : ResourceNo) (filling : IsFilling made filled k) where
  abbrev r : Reading
  r = reading s

  abbrev t : Model
  t = model_of s.metamodel w b

  abbrev j : ResourceNo
  j = number_of made k

  abbrev doc : Doc
  doc = copied_document (reading s) k

  abbrev u : Model
  u = model_after (model_of s.metamodel w b) (Load (number_of made k) (copied_document (reading s) k))

  abbrev more : List ResourceNo
  more = filled ++ k ∷ []

  there : has_resource r k ≡ true
  there = so_far.there k filling.there

  more-once : IsDistinct is_same more
  more-once = distinct-last filled k so_far.filled_once filling.new

  ---------------------------------------------------------------- nothing refuses it

  low-number : (i : ResourceNo) → has made i ≡ true → (number_of made i).0 < length made
  low-number i h = slice_get_within made (number_of made i).0 i (numbered made i h).there

  j-there : has_resource (reading t) j ≡ true
  j-there =
      let low = low-number k filling.there in
      let same = ap (λ (us : List (List ℕ)). length us) so_far.uris ∙ length-map made (uri_of r) in
      grind (arith, nat_tests)

  doc-length : length doc.objects ≡ length (objects_in r k)
  unfolding copied_document
  doc-length = length-map (objects_in r k) (object_copied r (objects_in r k))

  -- the number of all objects so far and of the objects of the document
  more-count : length w.objects + length (objects_in r k) ≡ length (flat_map (objects_in r) more)
  more-count =
      (λ i. so_far.count i + length (objects_in r k))
      ∙ sym (ap (λ (xs : List ObjectNo). length xs) (flat_map-append (objects_in r) filled (k ∷ [])) ∙ length-append (flat_map (objects_in r) filled) (objects_in r k ++ [])
      ∙ ap (λ (xs : List ObjectNo). length (flat_map (objects_in r) filled) + length xs) (append-nil (objects_in r k)))

  room : nat_le (length w.objects + length doc.objects) OBJECTS ≡ true
  room =
      let few = few-objects s legal more more-once in
      let most = legal.count in
      let sum = more-count in
      let same = doc-length in
      grind (arith, nat_tests)

  pub fill-allowed : IsAllowed t (Load j doc)
  fill-allowed = record {
    early = λ i. NoObject unless true else_by NoResource unless j-there i;
    late = λ i. Limit unless room i else_by NotEmpty unless is_nil (so_far.empty k filling.there filling.new i);
  }

  ---------------------------------------------------------------- what is after it

  read : IsDocument s.metamodel doc
  read = saved-document s legal steady k (uri_of r k) (readable s legal steady saved k there)

  now : IsLoaded (reading t) j doc (reading u)
  now = loads-ends t j doc so_far.legal fill-allowed.early fill-allowed.late read

  u-legal : IsLegal u
  u-legal = loaded-legal t j doc so_far.legal fill-allowed.early fill-allowed.late read now

  images : HasImages r k (length w.objects) j (reading u)
  images = load-images s w b legal so_far.legal k j fill-allowed.early fill-allowed.late read now

  one-uri : slice_get u.values.uris j.0 ≡ slice_get s.values.uris k.0
  one-uri =
      ap (λ (us : List (List ℕ)). slice_get us j.0) (now.others.uris ∙ so_far.uris) ∙ at-number ∙ sym (uri-at s legal steady saved k there)
    where
      mapped : {X Y : Type 0} (g : X → Y) (xs : List X) (i : ℕ) (x : X) → slice_get xs i ≡ Some x → slice_get (map g xs) i ≡ Some (g x)
      mapped g [] i x at = absurd (none-some x at)
      mapped g (y ∷ ys) zero x at = ap (λ z. Some (g z)) (same_Some y x at)
      mapped g (y ∷ ys) (suc i) x at = mapped g ys i x at

      at-number : slice_get (map (uri_of r) made) j.0 ≡ Some (uri_of r k)
      at-number = mapped (uri_of r) made j.0 k (numbered made k filling.there).there

  -- a different resource has a different number
  other-number : (i : ResourceNo) → has made i ≡ true → is_same i k ≡ false → roots_end r j ≡ roots_end r (number_of made i) → ⊥
  other-number i h other same =
      let number : j ≡ number_of made i = same_Some j (number_of made i) (ap (λ d. resource_of_node d.node) same) in
      let one : i ≡ k = same_Some i k (sym (numbered made i h).there ∙ ap (λ (x : ResourceNo). slice_get made x.0) (sym number) ∙ (numbered made k filling.there).there) in
      false≢true (sym other ∙ eq-eqb i.0 k.0 (ap (λ (x : ResourceNo). x.0) one))

  not-own : (i : ResourceNo) → has filled i ≡ true → is_same i k ≡ false
  not-own i h =
      elim (is_same i k) as (λ x. is_same i k ≡ x → x ≡ false) [
        | true ↦ λ same. absurd (true≢false (sym (ap (has filled) (λ l. record { 0 = sym (eqb-true i.0 k.0 same) l }) ∙ h) ∙ filling.new))
        | false ↦ λ _. refl
      ] refl

  object-end : (p : ObjectNo) (f : FeatureNo) → roots_end r j ≡ at_end (node.Object p) f → ⊥
  object-end p f same = none-some j (sym (ap (λ d. resource_of_node d.node) same))

  old-copied : (i : ResourceNo) → has filled i ≡ true → IsCopied r i (number_of made i) (so_far.base i) (reading u)
  old-copied i loaded =
      let old = so_far.copies i loaded in
      let new = image r i (so_far.base i) in
      let was : (o : ObjectNo) (inside : resource_of r.above o ≡ Some i) → _ = λ o inside. old-object t j doc so_far.legal fill-allowed.early fill-allowed.late read now (new o) (old.below o inside) in
      record {
        classes = λ o inside. now.others.classes (new o) (old.below o inside) ∙ old.classes o inside;
        values = λ o f inside. now.others.values (at_end (node.Object (new o)) f) (was o inside) (object-end (new o) f) ∙ old.values o f inside;
        flags = λ o f inside. now.others.flags (at_end (node.Object (new o)) f) (was o inside) ∙ old.flags o f inside;
        roots = now.others.values (roots_end r (number_of made i)) refl (other-number i (so_far.filled_made i loaded) (not-own i loaded)) ∙ old.roots;
        addresses = λ o inside. (let a = has-address s legal steady saved i o inside in address-kept t j doc so_far.legal fill-allowed.early fill-allowed.late read now (new o) a.0 (old.addresses o inside ∙ a.1) ∙ sym a.1);
        below = λ o inside. (let low = old.below o inside in let next = now.objects.next in omega (arith, low, next));
      }

  own-copied : IsCopied r k j (length w.objects) (reading u)
  own-copied = record {
    classes = images.classes;
    values = images.values;
    flags = images.flags;
    roots = images.roots;
    addresses = images.addresses one-uri;
    below = λ o inside. own-below o inside;
  }
    where
      own-below : (o : ObjectNo) → resource_of r.above o ≡ Some k → (image r k (length w.objects) o).0 < (reading u).next
      own-below o inside = live-made u (image r k (length w.objects) o) (ap (λ x. is_some x) (images.classes o inside) ∙ live-inside s legal o k inside)

  new_base : ResourceNo → ℕ
  new_base i = if is_same i k then length w.objects else so_far.base i

  base-old : (i : ResourceNo) → is_same i k ≡ false → new_base i ≡ so_far.base i
  unfolding new_base
  base-old i other = ap (λ (x : Bool). if x then length w.objects else so_far.base i) other

  base-own : new_base k ≡ length w.objects
  unfolding new_base
  base-own = ap (λ (x : Bool). if x then length w.objects else so_far.base k) (self k)

  all-copied : (i : ResourceNo) → has more i ≡ true → IsCopied r i (number_of made i) (new_base i) (reading u)
  all-copied i h = by (one-of filled k i h)
    where
      by : IsOneOf filled k i → IsCopied r i (number_of made i) (new_base i) (reading u)
      by (Before before) = subst (λ (n : ℕ). IsCopied r i (number_of made i) n (reading u)) (sym (base-old i (not-own i before))) (old-copied i before)
      by (Last last) = subst (λ (x : ResourceNo). IsCopied r x (number_of made x) (new_base x) (reading u)) (sym last) (subst (λ (n : ℕ). IsCopied r k j n (reading u)) (sym base-own) own-copied)

  now-empty : (i : ResourceNo) → has made i ≡ true → has more i ≡ false → values_at u (roots_end r (number_of made i)) ≡ []
  now-empty i h unfilled =
      let both = not-of filled k i unfilled in
      now.others.values (roots_end r (number_of made i)) refl (other-number i h both.1) ∙ so_far.empty i h both.0

  more-made : (i : ResourceNo) → has more i ≡ true → has made i ≡ true
  more-made i h = by (one-of filled k i h)
    where
      by : IsOneOf filled k i → has made i ≡ true
      by (Before before) = so_far.filled_made i before
      by (Last last) = ap (has made) last ∙ filling.there

  only-now : (p : ObjectNo) → p.0 < length u.values.objects → IsImageOf r more new_base p
  only-now p low =
      elim (nat_lt p.0 (length w.objects)) as (λ x. nat_lt p.0 (length w.objects) ≡ x → IsImageOf r more new_base p) [
        | true ↦ λ h.
            let before : p.0 < length w.objects = grind (arith, nat_tests) in
            let x = so_far.only p before in
            record {
              resource = x.resource;
              loaded = has-before filled k x.resource x.loaded;
              object = x.object;
              inside = x.inside;
              is = x.is ∙ ap (λ (n : ℕ). image r x.resource n x.object) (sym (base-old x.resource (not-own x.resource x.loaded)));
            }
        | false ↦ λ h.
            let high : length w.objects ≤ p.0 = grind (arith, nat_tests) in
            let x = images.only p high low in
            record { resource = k; loaded = has-own filled k; object = x.0; inside = x.1; is = x.2 ∙ ap (λ (n : ℕ). image r k n x.0) (sym base-own) }
      ] refl

  pub filled-so-far : HasSoFar s u.values u.links made more
  filled-so-far = record {
    legal = u-legal;
    uris = now.others.uris ∙ so_far.uris;
    once = so_far.once;
    there = so_far.there;
    filled_once = more-once;
    filled_made = more-made;
    empty = now-empty;
    base = new_base;
    copies = all-copied;
    only = only-now;
    count = images.next ∙ more-count;
  }
