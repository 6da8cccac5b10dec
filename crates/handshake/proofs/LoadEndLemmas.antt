-- The values of ends after a document is loaded, and that they are legal.
use Rattle.std.proofs.Common.{◌≡◌, ◌≢◌, ◌∙◌, ◌+◌, ◌<◌, ◌≤◌, ℕ, zero, suc, true, false, List, [], ◌∷◌, Option, Some, None, is_some, length, map, nat_le, nat_lt, option_map, slice_get, arith, refl, sym, ap, subst, inl, inr}
use Rattle.std.specs.List.{AllByRecursion, list_all}
use Rattle.std.specs.Option.{option_map_or}
use Rattle.std.proofs.lemmas.Bool.{and_from, and_parts, cases_lt, false≢true, true≢false}
use Rattle.std.proofs.lemmas.Bool.Decides.{nat_tests}
use Rattle.std.proofs.lemmas.List.{length-map}
use Rattle.std.proofs.lemmas.List.Elements.{recursion_from_All}
use Rattle.std.proofs.lemmas.Option.{none-some, slice_get_past}
use Rattle.mm_types.specs.Lookups as lookups
use Rattle.mm_types.specs.Resolved.{Metamodel}
use Rattle.mm_types.specs.Same.{same_feature}
use Rattle.mm_types.specs.Shapes.{contents_shape, is_bounded, shape, shape_of}
use Rattle.mm_types.specs.declared.end.End.{End}
use Rattle.mm_types.specs.declared.feature.Feature.{Feature}
use Rattle.mm_types.specs.declared.feature.Kind.{Kind}
use Rattle.mm_types.specs.declared.feature.Kind.TheVariants.{Attribute, Reference}
use Rattle.mm_types.specs.declared.numbers.ClassNo.{ClassNo}
use Rattle.mm_types.specs.declared.numbers.FeatureNo.{FeatureNo}
use Rattle.mm_types.specs.declared.numbers.Node.TheVariants as node
use Rattle.mm_types.specs.declared.numbers.ObjectNo.{ObjectNo}
use Rattle.mm_types.specs.declared.numbers.ResourceNo.{ResourceNo}
use Rattle.mm_types.specs.declared.value.Value.{Value}
use Rattle.mm_types.specs.declared.value.Value.TheVariants as value
use Rattle.mm_meta.proofs.ShapeLemmas.{far_types_fit}
use Rattle.mm_values.specs.Values.{ValuesState, class_of}
use Rattle.links.specs.Links.{Links, end}
use Rattle.models.specs.Legal.{IsLegal, is_legal_end, is_legal_target}
use Rattle.models.specs.Model.{Model, model_of, reading}
use Rattle.models.specs.Reading.{Reading, contents_end, has_feature, has_resource}
use Rattle.resource_docs.specs.Read.{values_in, values_under}
use Rattle.resource_docs.specs.declared.doc.Content.{Content}
use Rattle.resource_docs.specs.declared.doc.Doc.{Doc}
use Rattle.resource_docs.specs.declared.doc.DocObject.{DocObject}
use Rattle.doc_loader.specs.Loading.{loaded_links, loaded_number, loaded_value, object_end, roots_loaded, with_links}
use Rattle.doc_loader.specs.Typed.{IsTyped, IsTypedContent, IsTypedObject, IsTypedValue, class_in}
use Rattle.doc_loader.proofs.EndLemmas.{end-elsewhere, end-held, end-near, end-roots, end-values, loaded-set_is, loaded_set, one-source}
use Rattle.doc_loader.proofs.NearLemmas.{IsPlaceOf, at_far, at_near, at_roots, elsewhere, place_of}
use Rattle.doc_loader.proofs.PairLemmas.{all-at}
use Rattle.doc_loader.proofs.SideLemmas.{IsFarSide, IsNearSide, IsPlainFeature, contents-shape, opposite-reference}
use Rattle.doc_loader.proofs.SoundLemmas.{IsThere, has-content, there-object}
use Rattle.doc_loader.proofs.SourceLemmas.{ascending-distinct, loaded_values, source-at, sources-ascending, sources_from}
use Rattle.containment.proofs.PartLemmas.{takes-same}
use Rattle.handshake.specs.Laws.{comes_with}
use Rattle.handshake.specs.Changes.{IsDocument}
use Rattle.handshake.specs.Refusals.{late_refusal}
use Rattle.handshake.specs.declared.change.Change.TheVariants.{Load}
use Rattle.handshake.proofs.LegalEndLemmas.{HaveClasses, end-from, legal-end-kept, none_goes, one-bounded, untouched-end}
use Rattle.handshake.proofs.LoadLemmas.{few, load-makes, room, sound, unborn}
use Rattle.handshake.proofs.LoadValueLemmas.{AreLoaded}

---------------------------------------------------------------- types

kept-kind : (m : Metamodel) (f : FeatureNo) (g : Feature) (k : Kind) (v : Value) → lookups.is_of_attribute m (lookups.is_single g) k v ≡ true → (shape_of m f g k).is_reference ≡ false
kept-kind m f g (Attribute t unique unsettable default) v h = refl
kept-kind m f g (Reference target containment opposite) v h = absurd (false≢true h)

-- a feature that stores a value is an attribute
keeps-attribute : (m : Metamodel) (f : FeatureNo) (v : Value) → lookups.keeps m f v ≡ true → (shape m f).is_reference ≡ false
keeps-attribute m f v h = by (lookups.feature m f) refl h
  where
    by : (o : Option Feature) → lookups.feature m f ≡ o → option_map_or (λ g. lookups.is_of_attribute m (lookups.is_single g) g.kind v) o false ≡ true → (shape m f).is_reference ≡ false
    by None is h = absurd (false≢true h)
    by (Some g) is h = ap (λ (o : Option Feature). (option_map_or (λ x. shape_of m f x x.kind) o (contents_shape m)).is_reference) is ∙ kept-kind m f g g.kind v h

---------------------------------------------------------------- the ends

module _ (s : Model) (k : ResourceNo) (doc : Doc) (legal : IsLegal s) (late : late_refusal (reading s) (Load k doc) ≡ None) (read : IsDocument s.metamodel doc) where
  abbrev m : Metamodel
  m = s.metamodel

  abbrev n : ℕ
  n = length s.values.objects

  -- the links after the load
  abbrev pub linked : Links
  linked = with_links s.links (loaded_links m n k doc)

  linked-is : loaded_set m n k doc (sound s k doc legal late read) s.links legal.links.set legal.links.kinds legal.links.forest (room s k doc legal late) (few s k doc legal late) ≡ linked
  linked-is =
      sym (loaded-set_is m n k doc (sound s k doc legal late read) s.links legal.links.set legal.links.kinds legal.links.forest (room s k doc legal late) (few s k doc legal late))
      ∙ (load-makes s k doc legal late read).makes

  end-of : (d : End) (vs : List Value) → end (loaded_set m n k doc (sound s k doc legal late read) s.links legal.links.set legal.links.kinds legal.links.forest (room s k doc legal late) (few s k doc legal late)) d ≡ vs → end linked d ≡ vs
  end-of d vs is = ap (λ (t : Links). end t d) (sym linked-is) ∙ is

  pub linked-roots : end linked (contents_end m k) ≡ roots_loaded n doc
  linked-roots = end-of (contents_end m k) (roots_loaded n doc) (end-roots m n k doc (sound s k doc legal late read) s.links legal.links.set legal.links.kinds legal.links.forest (room s k doc legal late) (few s k doc legal late))

  -- an end of a near feature has the values of the document
  pub linked-near : (o : ObjectNo) (f : FeatureNo) → IsNearSide m f → end linked (object_end n o f) ≡ loaded_values n (values_in doc o f)
  linked-near o f side =
      end-of (object_end n o f) (loaded_values n (values_in doc o f)) (end-near m n k doc (sound s k doc legal late read) s.links legal.links.set legal.links.kinds legal.links.forest (room s k doc legal late) (few s k doc legal late) o f side)

  -- a container reference has the object that names its object
  pub linked-held : (b : ObjectNo) (g f c : FeatureNo) → IsFarSide m g f → (shape m g).containing ≡ Some c → end linked (object_end n b g) ≡ sources_from n (λ (x : DocObject). values_under x f) b 0 doc.objects
  linked-held b g f c side contains =
      end-of (object_end n b g) (sources_from n (λ (x : DocObject). values_under x f) b 0 doc.objects) (end-held m n k doc (sound s k doc legal late read) s.links legal.links.set legal.links.kinds legal.links.forest (room s k doc legal late) (few s k doc legal late) b g f c side contains)

  -- there is at most one of these objects
  pub no-second : (b : ObjectNo) (f c : FeatureNo) → (shape m f).containing ≡ Some c → (u v : Value) (vs : List Value) → sources_from n (λ (x : DocObject). values_under x f) b 0 doc.objects ≡ u ∷ v ∷ vs → ⊥
  no-second b f c holds u v vs is =
      let from = sources_from n (λ (x : DocObject). values_under x f) b 0 doc.objects in
      let first : slice_get from 0 ≡ Some u = ap (λ (vs : List Value). slice_get vs 0) is in
      let second : slice_get from 1 ≡ Some v = ap (λ (vs : List Value). slice_get vs 1) is in
      let same = one-source m n k doc (sound s k doc legal late read) s.links legal.links.set legal.links.kinds legal.links.forest (room s k doc legal late) (few s k doc legal late) b f c holds 0 1 u v first second in
      let index = ascending-distinct (n + 0) from (sources-ascending n (λ (x : DocObject). values_under x f) b 0 doc.objects) 0 1 u first (second ∙ ap Some (sym same)) in
      omega (arith, index)

  -- each reference that is no container reference has the values of the document
  pub linked-values : (o : ObjectNo) (f : FeatureNo) → (shape m f).is_reference ≡ true → IsPlainFeature m f → end linked (object_end n o f) ≡ loaded_values n (values_in doc o f)
  linked-values o f reference plain =
      end-of (object_end n o f) (loaded_values n (values_in doc o f)) (end-values m n k doc (sound s k doc legal late read) s.links legal.links.set legal.links.kinds legal.links.forest (room s k doc legal late) (few s k doc legal late) o f reference plain)

  pub linked-elsewhere : (d : End) → ((o : ObjectNo) (f : FeatureNo) → (shape m f).is_reference ≡ true → object_end n o f ≢ d) → contents_end m k ≢ d → end linked d ≡ end s.links d
  linked-elsewhere d outside other =
      end-of d (end s.links d) (end-elsewhere m n k doc (sound s k doc legal late read) s.links legal.links.set legal.links.kinds legal.links.forest (room s k doc legal late) (few s k doc legal late) d outside other)

  -- an end of an existing node has the same values as before, except the roots of the resource
  pub linked-before : (d : End) → comes_with (reading s) (Load k doc) d.node ≡ false → contents_end m k ≢ d → end linked d ≡ end s.links d
  linked-before d old other = linked-elsewhere d (λ o f reference q. (
      let high : nat_le n (n + o.0) ≡ true = grind (arith, nat_tests) in
      true≢false (sym high ∙ ap (λ (y : End). comes_with (reading s) (Load k doc) y.node) q ∙ old))) other

  ---------------------------------------------------------------- they are legal

  module _ (w : ValuesState) (made : AreLoaded m n doc s.values w) where
    pub same-classes : HaveClasses none_goes (class_of s.values) (class_of w)
    same-classes o stays c is = elim (cases_lt o.0 n) [
      | inl low ↦ ap (option_map (λ x. x.class)) (made.below o low) ∙ is
      | inr high ↦ absurd (none-some c (sym (unborn s legal o high) ∙ is))
    ]

    pub no-fewer : length s.values.uris ≤ length w.uris
    no-fewer = subst (λ (us : List (List ℕ)). length s.values.uris ≤ length us) (sym made.uris) (omega arith)

  module _ (typed : IsTyped m doc) (there : has_resource (reading s) k ≡ true) (w : ValuesState) (made : AreLoaded m n doc s.values w) where
    abbrev r : Reading
    r = reading (model_of m w linked)

    class-made : (o : ObjectNo) (x : DocObject) → slice_get doc.objects o.0 ≡ Some x → class_of w (loaded_number n o) ≡ Some x.class
    class-made o x at = made.classes o ∙ ap (option_map (λ (d : DocObject). d.class)) at

    object-has : (o : ObjectNo) (x : DocObject) (f : FeatureNo) → slice_get doc.objects o.0 ≡ Some x → lookups.has_feature m x.class f ≡ true → has_feature r (node.Object (loaded_number n o)) f ≡ true
    object-has o x f at has = ap (λ (c : Option ClassNo). option_map_or (λ c. lookups.has_feature m c f) c false) (class-made o x at) ∙ has

    object-takes : (f : FeatureNo) (b : ObjectNo) → lookups.takes m (class_in doc) f (value.Object b) ≡ true → lookups.takes m (class_of w) f (value.Object (loaded_number n b)) ≡ true
    object-takes f b h = takes-same m (class_of w) (class_in doc) f (loaded_number n b) b (made.classes b) ∙ h

    target-legal : (f : FeatureNo) (v : Value) → (shape m f).is_reference ≡ true → IsTypedValue m doc f v → is_legal_target r f (loaded_value n v) ≡ true
    target-legal f v reference h = by v reference h
      where
        by : (v : Value) → (shape m f).is_reference ≡ true → IsTypedValue m doc f v → is_legal_target r f (loaded_value n v) ≡ true
        by (value.Object b) reference h = object-takes f b h
        by (value.Proxy t) reference h = h
        by value.Null reference h = absurd (true≢false (sym reference ∙ keeps-attribute m f value.Null (and_parts _ _ h).0))
        by (value.Bool b) reference h = absurd (true≢false (sym reference ∙ keeps-attribute m f (value.Bool b) (and_parts _ _ h).0))
        by (value.Int i) reference h = absurd (true≢false (sym reference ∙ keeps-attribute m f (value.Int i) (and_parts _ _ h).0))
        by (value.Text t) reference h = absurd (true≢false (sym reference ∙ keeps-attribute m f (value.Text t) (and_parts _ _ h).0))
        by (value.Literal i) reference h = absurd (true≢false (sym reference ∙ keeps-attribute m f (value.Literal i) (and_parts _ _ h).0))

    targets-legal : (f : FeatureNo) (vs : List Value) → (shape m f).is_reference ≡ true → AllByRecursion (IsTypedValue m doc f) vs → list_all (is_legal_target r f) (loaded_values n vs) ≡ true
    targets-legal f [] reference all = refl
    targets-legal f (v ∷ vs) reference all =
        and_from _ _ (target-legal f v reference all.0) (targets-legal f vs reference all.1)

    -- a content of an object of the document
    content-typed : (o : ObjectNo) (c : Content) (h : IsThere doc o c) → IsTypedContent m doc h.object.class c
    content-typed o c h =
        let object = all-at (IsTypedObject m doc) doc.objects o.0 h.object (recursion_from_All (IsTypedObject m doc) doc.objects typed.objects) h.at in
        all-at (IsTypedContent m doc h.object.class) h.object.contents h.index c (recursion_from_All (IsTypedContent m doc h.object.class) h.object.contents object.contents) h.in_object

    values-legal : (o : ObjectNo) (f : FeatureNo) → (shape m f).is_reference ≡ true → (vs : List Value) → values_in doc o f ≡ vs → is_legal_end r (object_end n o f) (loaded_values n vs) ≡ true
    values-legal o f reference [] is = refl
    values-legal o f reference (v ∷ vs) is =
        let c = has-content m doc (sound s k doc legal late read) o f 0 v (ap (λ (us : List Value). slice_get us 0) is) in
        let t = content-typed o c.content c.there in
        let same : c.content.values ≡ v ∷ vs = sym c.values ∙ is in
        let has = object-has o c.there.object f c.there.at (subst (λ (g : FeatureNo). lookups.has_feature m c.there.object.class g ≡ true) c.of t.has) in
        let all = subst (λ (us : List Value). AllByRecursion (IsTypedValue m doc f) us) same (subst (λ (g : FeatureNo). AllByRecursion (IsTypedValue m doc g) c.content.values) c.of (recursion_from_All (IsTypedValue m doc c.content.feature) c.content.values t.takes)) in
        let bounded : is_bounded (shape m f) (length (loaded_values n (v ∷ vs))) ≡ true =
        ap (is_bounded (shape m f)) (length-map (v ∷ vs) (loaded_value n)) ∙ (λ i. is_bounded (shape m (sym c.of i)) (length (sym same i))) ∙ t.bounded in
        end-from r (object_end n o f) (loaded_values n (v ∷ vs)) has (targets-legal f (v ∷ vs) reference all) bounded

    near-legal : (o : ObjectNo) (f : FeatureNo) → (shape m f).is_reference ≡ true → IsPlainFeature m f → is_legal_end r (object_end n o f) (end linked (object_end n o f)) ≡ true
    near-legal o f reference plain = subst (λ (us : List Value). is_legal_end r (object_end n o f) us ≡ true) (sym (linked-values o f reference plain)) (values-legal o f reference (values_in doc o f) refl)

    ---------------------------------------------------------------- containers

    module _ (b : ObjectNo) (g f c : FeatureNo) (side : IsFarSide m g f) (contains : (shape m g).containing ≡ Some c) where
      -- a value of a container reference is one that the object may have there, and the object's class has the feature
      record IsFitting (u : Value) : Type 0 where
        has : has_feature r (node.Object (loaded_number n b)) g ≡ true
        takes : is_legal_target r g u ≡ true

      source-fits : (i : ℕ) (u : Value) → slice_get (sources_from n (λ (x : DocObject). values_under x f) b 0 doc.objects) i ≡ Some u → IsFitting u
      source-fits i u at =
          let x = source-at n (λ (x : DocObject). values_under x f) b doc.objects i u at in
          let q = has-content m doc (sound s k doc legal late read) x.0 f x.4.0 (value.Object b) (there-object doc x.0 f x.1 x.4.0 (value.Object b) x.2 x.4.1) in
          let t = content-typed x.0 q.content q.there in
          let has = object-has x.0 q.there.object f q.there.at (subst (λ (h : FeatureNo). lookups.has_feature m q.there.object.class h ≡ true) q.of t.has) in
          let all = subst (λ (h : FeatureNo). AllByRecursion (IsTypedValue m doc h) q.content.values) q.of (recursion_from_All (IsTypedValue m doc q.content.feature) q.content.values t.takes) in
          let here = all-at (IsTypedValue m doc f) q.content.values x.4.0 (value.Object b) all (ap (λ (us : List Value). slice_get us x.4.0) (sym q.values) ∙ there-object doc x.0 f x.1 x.4.0 (value.Object b) x.2 x.4.1) in
          let fit = far_types_fit m legal.metamodel (class_of w) (loaded_number n x.0) (loaded_number n b) f g side.back has (object-takes f b here) in
          record { has = fit.0; takes = subst (λ (v : Value). is_legal_target r g v ≡ true) (sym x.3) fit.1 }

      alone : (us : List Value) → sources_from n (λ (x : DocObject). values_under x f) b 0 doc.objects ≡ us → is_legal_end r (object_end n b g) us ≡ true
      alone [] is = refl
      alone (u ∷ []) is =
          let fits = source-fits 0 u (ap (λ (vs : List Value). slice_get vs 0) is) in
          end-from r (object_end n b g) (u ∷ []) fits.has (and_from _ _ fits.takes refl) (one-bounded (shape m g))
      alone (u ∷ v ∷ vs) is = absurd (no-second b f c (sym ((sound s k doc legal late read).kinds.one_container g f side.pair) ∙ contains) u v vs is)

      held-legal : is_legal_end r (object_end n b g) (end linked (object_end n b g)) ≡ true
      held-legal = subst (λ (us : List Value). is_legal_end r (object_end n b g) us ≡ true) (sym (linked-held b g f c side contains)) (alone (sources_from n (λ (x : DocObject). values_under x f) b 0 doc.objects) refl)

    ---------------------------------------------------------------- roots

    no-feature : lookups.feature m (lookups.contents m) ≡ None
    no-feature = slice_get_past m.features (length m.features) (omega arith)

    some-there : {X : Type 0} (xs : List X) (i : ℕ) → i < length xs → is_some (slice_get xs i) ≡ true
    some-there [] i low = absurd (omega (arith, low))
    some-there (x ∷ xs) zero low = refl
    some-there (x ∷ xs) (suc i) low = some-there xs i (omega (arith, low))

    mapped-some : {X Y : Type 0} (h : X → Y) (o : Option X) → is_some o ≡ true → is_some (option_map h o) ≡ true
    mapped-some h None some = some
    mapped-some h (Some x) some = refl

    root-taken : (b : ObjectNo) → b.0 < length doc.objects → is_legal_target r (lookups.contents m) (value.Object (loaded_number n b)) ≡ true
    root-taken b low =
        ap (λ (o : Option Feature). option_map_or (λ g. lookups.is_of_kind m (class_of w) (lookups.is_single g) g.kind (value.Object (loaded_number n b))) o (lookups.is_live_object (class_of w) (value.Object (loaded_number n b)))) no-feature
        ∙ ap (λ (c : Option ClassNo). is_some c) (made.classes b) ∙ mapped-some (λ (x : DocObject). x.class) (slice_get doc.objects b.0) (some-there doc.objects b.0 low)

    roots-taken : (os : List ObjectNo) → AllByRecursion (λ (o : ObjectNo). o.0 < length doc.objects) os → list_all (is_legal_target r (lookups.contents m)) (map (λ o. value.Object (loaded_number n o)) os) ≡ true
    roots-taken [] all = refl
    roots-taken (o ∷ os) all = and_from _ _ (root-taken o all.0) (roots-taken os all.1)

    same-self : (f : FeatureNo) → same_feature f f ≡ true
    same-self f = grind (arith, nat_tests)

    roots-legal : is_legal_end r (contents_end m k) (end linked (contents_end m k)) ≡ true
    roots-legal =
        let has : has_feature r (node.Resource k) (lookups.contents m) ≡ true = and_from _ _ (ap (λ (us : List (List ℕ)). nat_lt k.0 (length us)) made.uris ∙ there) (same-self (lookups.contents m)) in
        let bounded : is_bounded (shape m (lookups.contents m)) (length (roots_loaded n doc)) ≡ true =
        (λ i. is_bounded (contents-shape m i) (length-map doc.roots (λ o. value.Object (loaded_number n o)) i)) ∙ typed.few_roots in
        subst (λ (us : List Value). is_legal_end r (contents_end m k) us ≡ true) (sym linked-roots)
        (end-from r (contents_end m k) (roots_loaded n doc) has (roots-taken doc.roots (recursion_from_All (λ (o : ObjectNo). o.0 < length doc.objects) doc.roots typed.roots)) bounded)

    ---------------------------------------------------------------- all ends

    far-legal : (b : ObjectNo) (g f : FeatureNo) → IsFarSide m g f → is_legal_end r (object_end n b g) (end linked (object_end n b g)) ≡ true
    far-legal b g f side = by (shape m g).containing refl
      where
        by : (c : Option FeatureNo) → (shape m g).containing ≡ c → is_legal_end r (object_end n b g) (end linked (object_end n b g)) ≡ true
        by None none = near-legal b g (opposite-reference m g f side.pair) (λ c has. absurd (none-some c (sym none ∙ has)))
        by (Some c) has = held-legal b g f c side has

    at-site : (d : End) → IsPlaceOf m n k doc (sound s k doc legal late read) s.links legal.links.set legal.links.kinds legal.links.forest (room s k doc legal late) (few s k doc legal late) d → is_legal_end r d (end linked d) ≡ true
    at-site d (at_roots q) = subst (λ (y : End). is_legal_end r y (end linked y) ≡ true) q roots-legal
    at-site d (at_near o f q side) =
        subst (λ (y : End). is_legal_end r y (end linked y) ≡ true) q
        (subst (λ (us : List Value). is_legal_end r (object_end n o f) us ≡ true) (sym (linked-near o f side)) (values-legal o f side.reference (values_in doc o f) refl))
    at-site d (at_far b g f q side) = subst (λ (y : End). is_legal_end r y (end linked y) ≡ true) q (far-legal b g f side)
    at-site d (elsewhere outside other) =
        subst (λ (us : List Value). is_legal_end r d us ≡ true) (sym (linked-elsewhere d outside other))
        (legal-end-kept none_goes s w linked (same-classes w made) (no-fewer w made) d (end s.links d) (untouched-end d (end s.links d)) (legal.links.ends d))

    pub linked-legal : (d : End) → is_legal_end r d (end linked d) ≡ true
    linked-legal d = at-site d (place_of m n k doc (sound s k doc legal late read) s.links legal.links.set legal.links.kinds legal.links.forest (room s k doc legal late) (few s k doc legal late) d)
