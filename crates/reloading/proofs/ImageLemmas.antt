-- The load of a saved document makes an image of each object that was saved.
use Rattle.std.proofs.Common.{◌≡◌, ◌∙◌, ℕ, zero, suc, ◌+◌, ◌-◌, ◌<◌, ◌≤◌, Bool, true, false, ◌&&◌, not, List, [], ◌∷◌, Option, Some, None, is_some, length, map, slice_get, unwrap_or, arith, refl, sym, ap}
use Rattle.std.specs.Prelude.{option_map, position}
use Rattle.std.specs.List.{list_all}
use Rattle.std.specs.Option.{option_map_or}
use Rattle.std.proofs.lemmas.Bool.{and_parts, false≢true}
use Rattle.std.proofs.lemmas.List.{length-map}
use Rattle.std.proofs.lemmas.Option.{none-some, same_Some}
use Rattle.mm_types.specs.Lookups as lookups
use Rattle.mm_types.specs.Resolved.{Metamodel}
use Rattle.mm_types.specs.Same.{is_nil, same_object}
use Rattle.mm_types.specs.Shapes.{is_containment, shape}
use Rattle.mm_types.specs.declared.numbers.ClassNo.{ClassNo}
use Rattle.mm_types.specs.declared.numbers.FeatureNo.{FeatureNo}
use Rattle.mm_types.specs.declared.numbers.Node.TheVariants as node
use Rattle.mm_types.specs.declared.numbers.ObjectNo.{ObjectNo}
use Rattle.mm_types.specs.declared.numbers.ResourceNo.{ResourceNo}
use Rattle.mm_types.specs.declared.value.Value.{Value}
use Rattle.mm_types.specs.declared.value.Value.TheVariants as value
use Rattle.mm_values.specs.Values.{ValuesState, class_of}
use Rattle.links.specs.Holders.{above, holder}
use Rattle.links.specs.Links.{Links}
use Rattle.models.specs.Legal.{IsLegal}
use Rattle.models.specs.Model.{Model, kept_flag, kept_values, model_of, reading, values_at}
use Rattle.models.specs.Reading.{Reading, at_end, contents_end, object_of, objects_of}
use Rattle.containment.proofs.PartLemmas.{contains-itself, contains-reference, holder-at}
use Rattle.containment.specs.Above.{resource_of}
use Rattle.fragment_paths.proofs.HeldLemmas.{held}
use Rattle.fragment_paths.proofs.ImageLemmas.{address-image, path-image}
use Rattle.fragment_paths.proofs.InsideLemmas.{contents-contains}
use Rattle.fragment_paths.proofs.ObjectLemmas.{all-objects}
use Rattle.fragment_paths.proofs.UpLemmas.{resource-part, resource-root}
use Rattle.fragment_paths.specs.Finding.{roots}
use Rattle.fragment_paths.specs.Fragments.{address, position_in}
use Rattle.doc_writer.specs.Written.{objects_in}
use Rattle.resource_docs.specs.Read.{values_in, values_under}
use Rattle.resource_docs.specs.declared.doc.Doc.{Doc}
use Rattle.resource_docs.specs.declared.doc.DocObject.{DocObject}
use Rattle.doc_loader.specs.Loading.{loaded_number, loaded_value}
use Rattle.doc_loader.proofs.SoundLemmas.{at-map}
use Rattle.round_trip.specs.Copied.{copied_document, object_copied, renamed_value, root_copied}
use Rattle.round_trip.proofs.ContainLemmas.{reference-plain, plain-containment}
use Rattle.round_trip.proofs.InsideLemmas.{written-inside}
use Rattle.round_trip.proofs.ListLemmas.{map-twice, mapped-at}
use Rattle.round_trip.proofs.OrderLemmas.{objects-apart, position-there, there-position}
use Rattle.round_trip.proofs.ShapeLemmas.{live-inside}
use Rattle.round_trip.proofs.ValuesListLemmas.{IsAt, stands}
use Rattle.handshake.specs.Effects.{model_after}
use Rattle.handshake.specs.Loaded.{IsContainer, IsLoaded, IsWrittenWith}
use Rattle.handshake.specs.Changes.{IsDocument}
use Rattle.handshake.specs.Refusals.{early_refusal, late_refusal}
use Rattle.handshake.specs.declared.change.Change.TheVariants.{Load}
use Rattle.reloading.specs.Images.{HasImages, image, value_image}
use Rattle.reloading.proofs.AddressLemmas.{loaded-legal}
use Rattle.reloading.proofs.ContainerLemmas.{Held, IsContainerReference, IsHeldBy, Nobody, container-reference, held-by, who-holds}
use Rattle.reloading.proofs.DocumentLemmas.{attribute-as, object-in, reference-values}
use Rattle.reloading.proofs.MeaningLemmas.{map-get}
use Rattle.reloading.proofs.NumberLemmas.{image-is, place-in, renamed_value-inside, value-inside}
use Rattle.doc_writer.proofs.PlainLemmas.{attribute-plain, is_plain}
use Rattle.reloading.proofs.StoredLemmas.{stored-of}

not-nil : (v : Value) (vs : List Value) → v ∷ vs ≡ [] → ⊥
not-nil v vs same = false≢true (ap is_nil same)

module _ (s : Model) (w : ValuesState) (c : Links) (legal : IsLegal s) (other : IsLegal (model_of s.metamodel w c)) (k j : ResourceNo)
    (early : early_refusal (reading (model_of s.metamodel w c)) (Load j (copied_document (reading s) k)) ≡ None) (late : late_refusal (reading (model_of s.metamodel w c)) (Load j (copied_document (reading s) k)) ≡ None)
    (read : IsDocument s.metamodel (copied_document (reading s) k)) (now : IsLoaded (reading (model_of s.metamodel w c)) j (copied_document (reading s) k) (reading (model_after (model_of s.metamodel w c) (Load j (copied_document (reading s) k))))) where
  abbrev m : Metamodel
  m = s.metamodel

  abbrev r : Reading
  r = reading s

  abbrev os : List ObjectNo
  os = objects_in (reading s) k

  abbrev doc : Doc
  doc = copied_document (reading s) k

  abbrev n : ℕ
  n = length w.objects

  abbrev t : Model
  t = model_of s.metamodel w c

  abbrev u : Model
  u = model_after (model_of s.metamodel w c) (Load j (copied_document (reading s) k))

  abbrev new : ObjectNo → ObjectNo
  new = image (reading s) k (length w.objects)

  abbrev as_new : Value → Value
  as_new = value_image (reading s) k (length w.objects)

  abbrev IsInside : ObjectNo → Type 0
  IsInside o = resource_of (above s.links) o ≡ Some k

  pub u-legal : IsLegal u
  u-legal = loaded-legal t j doc other early late read now

  ---------------------------------------------------------------- numbers

  place : (o : ObjectNo) → IsInside o → IsAt os o
  place o inside = place-in s legal k o inside

  new-is : (o : ObjectNo) (at : IsAt os o) → new o ≡ loaded_number n (record { 0 = at.number })
  new-is o at = image-is s legal k n o at

  renamed_value-is : (o : ObjectNo) (at : IsAt os o) → renamed_value r os (value.Object o) ≡ value.Object (record { 0 = at.number })
  renamed_value-is o at = renamed_value-inside s legal k o at

  seen-object : (o : ObjectNo) → IsInside o → as_new (value.Object o) ≡ value.Object (new o)
  seen-object o inside = value-inside s legal k n o inside

  doc-length : length doc.objects ≡ length os
  unfolding copied_document
  doc-length = length-map os (object_copied r os)

  ---------------------------------------------------------------- classes

  some-class : (x : Option ClassNo) → is_some x ≡ true → Some (unwrap_or x (record { 0 = 0 })) ≡ x
  some-class None h = absurd (false≢true h)
  some-class (Some y) h = refl

  pub image-class : (o : ObjectNo) → IsInside o → (reading u).class (new o) ≡ r.class o
  image-class o inside =
      let at = place o inside in
      ap (reading u).class (new-is o at) ∙ now.objects.classes (record { 0 = at.number })
      ∙ ap (option_map (λ (x : DocObject). x.class)) (object-in r k o at.number at.there) ∙ some-class (class_of s.values o) (live-inside s legal o k inside)

  ---------------------------------------------------------------- attributes

  plain-new : (vs : List Value) → list_all is_plain vs ≡ true → vs ≡ map as_new vs
  plain-new [] all = refl
  plain-new (v ∷ vs) all =
      let both = and_parts _ _ all in
      let one = one-new v both.0 in
      let rest = plain-new vs both.1 in
      λ i. one i ∷ rest i
    where
      one-new : (x : Value) → is_plain x ≡ true → x ≡ as_new x
      one-new (value.Object o) h = absurd (false≢true h)
      one-new (value.Proxy y) h = absurd (false≢true h)
      one-new value.Null h = refl
      one-new (value.Bool y) h = refl
      one-new (value.Int y) h = refl
      one-new (value.Text y) h = refl
      one-new (value.Literal y) h = refl

  of-attribute : (o : ObjectNo) → IsInside o → (f : FeatureNo) → (shape m f).is_reference ≡ false → values_at u (at_end (node.Object (new o)) f) ≡ map as_new (values_at s (at_end (node.Object o) f))
  of-attribute o inside f attribute =
      let at = place o inside in
      ap (λ (x : ObjectNo). values_at u (at_end (node.Object x) f)) (new-is o at)
      ∙ now.objects.attributes (record { 0 = at.number }) f attribute
      ∙ (attribute-as s legal k o at.number f at.there attribute).values
      ∙ plain-new (values_at s (at_end (node.Object o) f)) (attribute-plain s legal (at_end (node.Object o) f) attribute)

  pub image-flag : (o : ObjectNo) (f : FeatureNo) → IsInside o → (reading u).flag (at_end (node.Object (new o)) f) ≡ r.flag (at_end (node.Object o) f)
  image-flag o f inside =
      let at = place o inside in
      ap (λ (x : ObjectNo). (reading u).flag (at_end (node.Object x) f)) (new-is o at)
      ∙ now.objects.flags (record { 0 = at.number }) f
      ∙ elim (shape m f).is_reference as (λ b. (shape m f).is_reference ≡ b → ((shape m f).is_unsettable && ((shape m f).is_single && not (is_nil (values_in doc (record { 0 = at.number }) f)))) ≡ kept_flag s.values (node.Object o) f) [
        | true ↦ λ reference.
            let off = (reference-plain m f reference).0 in
            ap (λ (b : Bool). b && ((shape m f).is_single && not (is_nil (values_in doc (record { 0 = at.number }) f)))) off
            ∙ sym ((stored-of s legal o f).flagged ∙ ap (λ (b : Bool). b && ((shape m f).is_single && not (is_nil (kept_values s.values (node.Object o) f)))) off)
        | false ↦ λ attribute. (attribute-as s legal k o at.number f at.there attribute).flag
      ] refl

  ---------------------------------------------------------------- references

  of-reference : (o : ObjectNo) → IsInside o → (f : FeatureNo) → (shape m f).is_reference ≡ true → lookups.is_container m f ≡ false → values_at u (at_end (node.Object (new o)) f) ≡ map as_new (values_at s (at_end (node.Object o) f))
  of-reference o inside f reference plain =
      let at = place o inside in
      ap (λ (x : ObjectNo). values_at u (at_end (node.Object x) f)) (new-is o at)
      ∙ now.objects.references (record { 0 = at.number }) f reference plain
      ∙ ap (map (loaded_value n)) (reference-values s legal k o at.number f at.there reference plain)
      ∙ map-twice (renamed_value r os) (loaded_value n) (values_at s (at_end (node.Object o) f))

  -- the container of an object of the resource is in the resource
  up-inside : (o b : ObjectNo) (f : FeatureNo) → IsInside o → holder s.links (node.Object o) ≡ Some (at_end (node.Object b) f) → IsInside b
  up-inside o b f inside up = sym (resource-part s legal o (at_end (node.Object b) f) b up refl) ∙ inside

  module _ (g : FeatureNo) (is : IsContainerReference s.metamodel g) (container : lookups.is_container s.metamodel g ≡ true) (o : ObjectNo) (inside : IsInside o) where
    abbrev f : FeatureNo
    f = is.opposite

    abbrev at : IsAt (objects_in (reading s) k) o
    at = place o inside

    abbrev number : ObjectNo
    number = record { 0 = at.number }

    own : IsContainer m g f
    own = (container, is.pair)

    refers : (shape m f).is_reference ≡ true
    refers = contains-reference m f f (contains-itself f (shape m f).containing is.contains)

    by-holder : (h : ObjectNo) → holder s.links (node.Object o) ≡ Some (at_end (node.Object h) f) → values_at u (at_end (node.Object (new o)) g) ≡ value.Object (new h) ∷ []
    by-holder h up =
        let e = at_end (node.Object h) f in
        let there = held s legal o e up in
        let q = position_in (reading s) e o in
        let above = place h (up-inside o h f inside up) in
        let written : IsWrittenWith doc (record { 0 = above.number }) f number =
        (q, ap (λ (vs : List Value). slice_get vs q) (reference-values s legal k h above.number f above.there refers (plain-containment m legal.metamodel f is.contains)) ∙ at-map (renamed_value r os) (values_at s e) q (value.Object o) there.here ∙ ap (λ (x : Value). Some x) (renamed_value-is o at)) in
        ap (λ (x : ObjectNo). values_at u (at_end (node.Object x) g)) (new-is o at)
        ∙ now.objects.containers number (record { 0 = above.number }) g f own written
        ∙ ap (λ (x : ObjectNo). value.Object x ∷ []) (sym (new-is h above))

    -- a value with the name of an object is this object
    named-only : (x : Value) → renamed_value r os x ≡ value.Object number → x ≡ value.Object o
    named-only (value.Object y) same = by (position (same_object y) os) refl same
      where
        by : (q : Option ℕ) → position (same_object y) os ≡ q → option_map_or (λ i. value.Object (record { 0 = i })) q (value.Proxy (unwrap_or (address r y) [])) ≡ value.Object number → value.Object y ≡ value.Object o
        by None at_none h = absurd (false≢true (ap lookups.is_object h))
        by (Some i) at_some h =
            let same_place : i ≡ at.number = ap (λ (x : ObjectNo). x.0) (same_Some (record { 0 = i }) number (ap object_of h)) in
            ap value.Object (same_Some y o (sym (position-there os y i at_some) ∙ ap (slice_get os) same_place ∙ at.there))
    named-only value.Null same = absurd (false≢true (ap lookups.is_object same))
    named-only (value.Bool y) same = absurd (false≢true (ap lookups.is_object same))
    named-only (value.Int y) same = absurd (false≢true (ap lookups.is_object same))
    named-only (value.Text y) same = absurd (false≢true (ap lookups.is_object same))
    named-only (value.Literal y) same = absurd (false≢true (ap lookups.is_object same))
    named-only (value.Proxy y) same = absurd (false≢true (ap lookups.is_object same))

    no-holder : values_at s (at_end (node.Object o) g) ≡ [] → (b : ObjectNo) → IsWrittenWith doc b f number → ⊥
    unfolding copied_document
    no-holder nothing b (i, there) = by (slice_get os b.0) refl
      where
        by : (x : Option ObjectNo) → slice_get os b.0 ≡ x → ⊥
        by None is_none =
            let none_in : slice_get doc.objects b.0 ≡ None = map-get (object_copied r os) os b.0 ∙ ap (option_map (object_copied r os)) is_none in
            none-some (value.Object number) (sym (ap (λ (x : Option DocObject). slice_get (option_map_or (λ y. values_under y f) x []) i) none_in) ∙ there)
        by (Some h) is_some =
            let e = at_end (node.Object h) f in
            let x = mapped-at (renamed_value r os) (values_at s e) i (value.Object number) (ap (λ (vs : List Value). slice_get vs i) (sym (reference-values s legal k h b.0 f is_some refers (plain-containment m legal.metamodel f is.contains))) ∙ there) in
            let here = x.1 ∙ ap (λ (y : Value). Some y) (named-only x.0 x.2) in
            let up = holder-at s legal (node.Object h) f is.contains i o here in
            not-nil (value.Object h) [] (sym (held-by s legal g is o h up) ∙ nothing)

    of-container : values_at u (at_end (node.Object (new o)) g) ≡ map as_new (values_at s (at_end (node.Object o) g))
    of-container = by (who-holds s legal g is o)
      where
        by : IsHeldBy s legal g is o → values_at u (at_end (node.Object (new o)) g) ≡ map as_new (values_at s (at_end (node.Object o) g))
        by (Nobody nothing) =
            ap (λ (x : ObjectNo). values_at u (at_end (node.Object x) g)) (new-is o at)
            ∙ now.objects.no_containers number g f own (no-holder nothing)
            ∙ sym (ap (map as_new) nothing)
        by (Held h up) =
            by-holder h up
            ∙ sym (ap (map as_new) (held-by s legal g is o h up) ∙ ap (λ (x : Value). x ∷ []) (seen-object h (up-inside o h f inside up)))

  -- each end of an image has the values of the saved end, renamed as in the image
  pub image-values : (o : ObjectNo) (f : FeatureNo) → IsInside o → values_at u (at_end (node.Object (new o)) f) ≡ map as_new (values_at s (at_end (node.Object o) f))
  image-values o f inside =
      elim (shape m f).is_reference as (λ b. (shape m f).is_reference ≡ b → values_at u (at_end (node.Object (new o)) f) ≡ map as_new (values_at s (at_end (node.Object o) f))) [
        | false ↦ λ attribute. of-attribute o inside f attribute
        | true ↦ λ reference.
            elim (lookups.is_container m f) as (λ b. lookups.is_container m f ≡ b → values_at u (at_end (node.Object (new o)) f) ≡ map as_new (values_at s (at_end (node.Object o) f))) [
              | true ↦ λ container. of-container f (container-reference m legal.metamodel f container) container o inside
              | false ↦ λ plain. of-reference o inside f reference plain
            ] refl
      ] refl

  ---------------------------------------------------------------- roots

  root-inside : (i : ℕ) (o : ObjectNo) → slice_get (values_at s (contents_end m k)) i ≡ Some (value.Object o) → IsInside o
  root-inside i o at = resource-root s legal o (contents_end m k) k (holder-at s legal (node.Resource k) (lookups.contents m) (contents-contains m) i o at) refl

  all-seen : (vs : List Value) → list_all lookups.is_object vs ≡ true → ((i : ℕ) (o : ObjectNo) → slice_get vs i ≡ Some (value.Object o) → IsInside o) → map (λ o. value.Object (new o)) (objects_of vs) ≡ map as_new vs
  all-seen [] all inside = refl
  all-seen (value.Object o ∷ vs) all inside =
      let one = seen-object o (inside 0 o refl) in
      let rest = all-seen vs all (λ i b at. inside (suc i) b at) in
      λ i. sym one i ∷ rest i
  all-seen (_ ∷ vs) all inside = absurd (false≢true all)

  pub image-roots : values_at u (contents_end m j) ≡ map as_new (values_at s (contents_end m k))
  unfolding copied_document
  image-roots =
      now.roots.contents ∙ map-twice (root_copied os) (λ o. value.Object (loaded_number n o)) (roots r k)
      ∙ all-seen (values_at s (contents_end m k)) (all-objects s (contents_end m k) legal (contents-contains m)) root-inside

  ---------------------------------------------------------------- containment and addresses

  tops-over : (i : ℕ) (o : ObjectNo) → slice_get (values_at s (contents_end m k)) i ≡ Some (value.Object o) → slice_get (values_at u (contents_end m j)) i ≡ Some (value.Object (new o))
  tops-over i o at =
      ap (λ (vs : List Value). slice_get vs i) image-roots ∙ at-map as_new (values_at s (contents_end m k)) i (value.Object o) at ∙ ap (λ (x : Value). Some x) (seen-object o (root-inside i o at))

  parts-over : (o : ObjectNo) (f : FeatureNo) (i : ℕ) (b : ObjectNo) → IsInside o → is_containment m f ≡ true → slice_get (values_at s (at_end (node.Object o) f)) i ≡ Some (value.Object b)
      → slice_get (values_at u (at_end (node.Object (new o)) f)) i ≡ Some (value.Object (new b))
  parts-over o f i b inside contains at =
      let e = at_end (node.Object o) f in
      let part : IsInside b = resource-part s legal b e o (holder-at s legal (node.Object o) f contains i b at) refl ∙ inside in
      ap (λ (vs : List Value). slice_get vs i) (image-values o f inside) ∙ at-map as_new (values_at s e) i (value.Object b) at ∙ ap (λ (x : Value). Some x) (seen-object b part)

  pub image-inside : (o : ObjectNo) → IsInside o → resource_of (above u.links) (new o) ≡ Some j
  image-inside o inside = (path-image m s.values u.values s.links u.links legal u-legal k j new tops-over parts-over o inside).inside

  pub image-holder : (o b : ObjectNo) (f : FeatureNo) → IsInside o → holder s.links (node.Object o) ≡ Some (at_end (node.Object b) f) → holder u.links (node.Object (new o)) ≡ Some (at_end (node.Object (new b)) f)
  image-holder o b f inside up =
      let e = at_end (node.Object b) f in
      let there = held s legal o e up in
      let q = position_in (reading s) e o in
      holder-at u u-legal (node.Object (new b)) f there.contains q (new o) (parts-over b f q o (up-inside o b f inside up) there.contains there.here)

  as-many-roots : length (values_at u (contents_end m j)) ≡ length (values_at s (contents_end m k))
  as-many-roots = ap (λ (vs : List Value). length vs) image-roots ∙ length-map (values_at s (contents_end m k)) as_new

  pub image-address : slice_get u.values.uris j.0 ≡ slice_get s.values.uris k.0 → (o : ObjectNo) → IsInside o → address (reading u) (new o) ≡ address r o
  image-address uris o inside = address-image m s.values u.values s.links u.links legal u-legal k j new tops-over parts-over as-many-roots uris o inside

  ---------------------------------------------------------------- no others

  next-is : (reading u).next ≡ n + length os
  next-is = now.objects.next ∙ ap (λ (x : ℕ). n + x) doc-length

  pub image-only : (p : ObjectNo) → n ≤ p.0 → p.0 < (reading u).next → (o : ObjectNo) × IsInside o × (p ≡ new o)
  image-only p high low =
      let next = next-is in
      let i = p.0 - n in
      let within : i < length os = omega (arith, next, high, low) in
      let o = unwrap_or (slice_get os i) p in
      let there : slice_get os i ≡ Some o = slice_some os i p within in
      let at = there-position os o i (objects-apart s legal k) there in
      let sum : n + i ≡ p.0 = omega (arith, high) in
      (o, written-inside s legal k o (stands os i o there), (λ x. record { 0 = sym sum x }) ∙ ap (λ (x : Option ℕ). loaded_number n (record { 0 = unwrap_or x 0 })) (sym at))
    where
      slice_some : (xs : List ObjectNo) (i : ℕ) (d : ObjectNo) → i < length xs → slice_get xs i ≡ Some (unwrap_or (slice_get xs i) d)
      slice_some [] i d below = absurd (omega (arith, below))
      slice_some (x ∷ xs) zero d below = refl
      slice_some (x ∷ xs) (suc i) d below = slice_some xs i d (omega (arith, below))

  pub load-images : HasImages r k n j (reading u)
  load-images = record {
    next = next-is;
    classes = image-class;
    values = image-values;
    flags = image-flag;
    roots = image-roots;
    inside = image-inside;
    holders = image-holder;
    addresses = image-address;
    only = image-only;
  }
