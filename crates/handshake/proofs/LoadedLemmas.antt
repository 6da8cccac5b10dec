-- The reading after a document is loaded: the new objects are those of the document, its roots are in their resource, and everything else
-- is as it was.
use Rattle.std.proofs.Common.{◌≡◌, ◌∙◌, ℕ, zero, suc, Bool, true, false, ◌&&◌, not, List, [], ◌∷◌, Option, Some, None, length, map, option_map, slice_get, unwrap_or, if◌then◌else◌, refl, sym, ap, subst, inl, inr}
use Rattle.std.specs.Prelude.{option_and_then}
use Rattle.std.specs.Option.{option_map_or}
use Rattle.std.proofs.lemmas.Bool.{false≢true}
use Rattle.std.proofs.lemmas.Option.{none-some, same_Some}
use Rattle.mm_types.specs.Lookups as lookups
use Rattle.mm_types.specs.Resolved.{Metamodel}
use Rattle.mm_types.specs.Same.{is_nil}
use Rattle.mm_types.specs.Shapes.{Shape, contents_shape, is_containment, shape, shape_of}
use Rattle.mm_types.specs.declared.end.End.{End}
use Rattle.mm_types.specs.declared.feature.Feature.{Feature}
use Rattle.mm_types.specs.declared.feature.Kind.{Kind}
use Rattle.mm_types.specs.declared.feature.Kind.TheVariants.{Attribute, Reference}
use Rattle.mm_types.specs.declared.numbers.FeatureNo.{FeatureNo}
use Rattle.mm_types.specs.declared.numbers.Node.{Node}
use Rattle.mm_types.specs.declared.numbers.Node.TheVariants as node
use Rattle.mm_types.specs.declared.numbers.ObjectNo.{ObjectNo}
use Rattle.mm_types.specs.declared.numbers.ResourceNo.{ResourceNo}
use Rattle.mm_types.specs.declared.value.Value.{Value}
use Rattle.mm_types.specs.declared.value.Value.TheVariants as value
use Rattle.mm_meta.proofs.ShapeLemmas.{shape_opposite}
use Rattle.mm_values.specs.Values.{ObjectState, ValuesState, object_at, stored_under}
use Rattle.links.specs.Links.{end}
use Rattle.models.specs.Legal.{IsLegal, IsLegalObject}
use Rattle.models.specs.Model.{Model, attribute_values, kept_flag, kept_values, reading, values_at}
use Rattle.containment.proofs.PartLemmas.{contains-itself, contains-reference, values-linked}
use Rattle.resource_docs.specs.Read.{values_in, values_under}
use Rattle.resource_docs.specs.declared.doc.Doc.{Doc}
use Rattle.resource_docs.specs.declared.doc.DocObject.{DocObject}
use Rattle.doc_loader.specs.Loading.{loaded_number, loaded_value, object_end}
use Rattle.doc_loader.proofs.SideLemmas.{IsFarSide, IsPlainFeature, contents-shape, near-contained, opposite-reference, sides}
use Rattle.doc_loader.proofs.SoundLemmas.{IsSound, at-map, object-there, there-object}
use Rattle.doc_loader.proofs.SourceLemmas.{at-source, loaded-at, source-at, sources_from}
use Rattle.doc_loader.proofs.TypedLemmas.{read-typed}
use Rattle.handshake.specs.Effects.{model_after}
use Rattle.handshake.specs.Laws.{comes_with}
use Rattle.handshake.specs.Loaded.{HasObjectsOf, HasRootsOf, IsContainer, IsElseAsBefore, IsWrittenWith, LoadsEnds}
use Rattle.handshake.specs.Changes.{IsDocument}
use Rattle.handshake.specs.Refusals.{early_refusal, late_refusal}
use Rattle.handshake.specs.declared.change.Change.TheVariants.{Load}
use Rattle.handshake.proofs.AttributeLemmas.{stored_for}
use Rattle.handshake.proofs.CutEndLemmas.{reference-plain}
use Rattle.handshake.proofs.LoadEndLemmas.{linked-before, linked-held, linked-near, linked-roots, linked-values, no-second}
use Rattle.handshake.proofs.LoadHolderLemmas.{above-stays, holder-stays, loaded-legal, old-made, stands-held}
use Rattle.handshake.proofs.LoadLemmas.{sound}
use Rattle.handshake.proofs.LoadStoredLemmas.{stored-loaded_number}
use Rattle.handshake.proofs.LoadValueLemmas.{AreLoaded, load-values}
use Rattle.handshake.proofs.ObjectLegalLemmas.{flag-off}
use Rattle.models.specs.Reading.{contents_end}
use Rattle.models.proofs.PlaceLemmas.{legal-at}

---------------------------------------------------------------- container references

-- the opposite of a container reference is a containment
container-contains : (m : Metamodel) (g f : FeatureNo) → lookups.is_container m g ≡ true → (shape m g).opposite ≡ Some f → (shape m f).containing ≡ Some f
container-contains m g f container pair = by (lookups.feature m f) (ap (λ (o : Option FeatureNo). option_map_or (λ (x : Feature). lookups.is_containment_kind x.kind) (option_and_then (lookups.feature m) o) false) (sym (sym (shape_opposite m g) ∙ pair)) ∙ container)
  where
    by_kind : (x : Feature) (k : Kind) → lookups.is_containment_kind k ≡ true → (shape_of m f x k).containing ≡ Some f
    by_kind x (Attribute t unique unsettable default) h = absurd (false≢true h)
    by_kind x (Reference target containment opposite) h = ap (λ (b : Bool). if b then Some f else (if lookups.is_container m f then opposite else None)) h

    by : (o : Option Feature) → option_map_or (λ (x : Feature). lookups.is_containment_kind x.kind) o false ≡ true → (option_map_or (λ x. shape_of m f x x.kind) o (contents_shape m)).containing ≡ Some f
    by None h = absurd (false≢true h)
    by (Some x) h = by_kind x x.kind h

-- if one feature of a pair is a containment, the one that is no container reference is
plain-pair : (m : Metamodel) (f g : FeatureNo) → lookups.is_container m f ≡ false → (shape m f).opposite ≡ Some g → IsPlainFeature m f
plain-pair m f g plain pair h = by (lookups.feature m f) pair
  where
    of_bool : (c : Bool) (o : Option FeatureNo) → (if c then Some f else (if lookups.is_container m f then o else None)) ≡ Some h → h ≡ f
    of_bool true o has = sym (same_Some f h has)
    of_bool false o has = absurd (none-some h (sym (ap (λ (b : Bool). if b then o else None) plain) ∙ has))

    by_kind : (x : Feature) (k : Kind) → (shape_of m f x k).containing ≡ Some h → h ≡ f
    by_kind x (Attribute t unique unsettable default) has = absurd (none-some h has)
    by_kind x (Reference target containment opposite) has = of_bool containment opposite has

    by : (o : Option Feature) → (option_map_or (λ x. shape_of m f x x.kind) o (contents_shape m)).opposite ≡ Some g → (option_map_or (λ x. shape_of m f x x.kind) o (contents_shape m)).containing ≡ Some h → h ≡ f
    by None none has = absurd (none-some g none)
    by (Some x) some has = by_kind x x.kind has

---------------------------------------------------------------- what is kept

list-kept : (f : FeatureNo) (x : Option ObjectState) → unwrap_or (option_map (λ y. (stored_under y f).list) x) [] ≡ (stored_for f x).list
list-kept f None = refl
list-kept f (Some y) = refl

-- a legal object has a set flag if a single unsettable attribute stores a value
flag-kept : (m : Metamodel) (f : FeatureNo) (x : Option ObjectState) → IsLegalObject m x
    → unwrap_or (option_map (λ y. (stored_under y f).flag) x) false ≡ ((shape m f).is_unsettable && ((shape m f).is_single && not (is_nil (stored_for f x).list)))
flag-kept m f None legal = flag-off (shape m f).is_unsettable (shape m f).is_single
flag-kept m f (Some y) legal = (legal.1 f).flag

module _ (s : Model) (k : ResourceNo) (doc : Doc) (legal : IsLegal s) (early : early_refusal (reading s) (Load k doc) ≡ None) (late : late_refusal (reading s) (Load k doc) ≡ None) (read : IsDocument s.metamodel doc) where
  abbrev m : Metamodel
  m = s.metamodel

  abbrev n : ℕ
  n = length s.values.objects

  abbrev t : Model
  t = model_after s (Load k doc)

  whole : IsSound m doc
  whole = sound s k doc legal late read

  made : AreLoaded s.metamodel (length s.values.objects) doc s.values (model_after s (Load k doc)).values
  made = load-values m s.values doc (read-typed m read.uri doc legal.metamodel read.read) legal.objects

  ---------------------------------------------------------------- attributes

  kept : (o : ObjectNo) (f : FeatureNo) → (shape m f).is_reference ≡ false → (stored_for f (object_at t.values.objects (loaded_number n o))).list ≡ values_in doc o f
  kept o f attribute = stored-loaded_number m s.values doc (read-typed m read.uri doc legal.metamodel read.read) legal.objects whole.others o f attribute

  attributes : (o : ObjectNo) (f : FeatureNo) → (shape m f).is_reference ≡ false → values_at t (object_end n o f) ≡ attribute_values (shape m f) (values_in doc o f)
  attributes o f attribute =
      let e = object_end n o f in
      ap (λ (b : Bool). if b then end t.links e else attribute_values (shape m f) (kept_values t.values e.node f)) attribute
      ∙ ap (attribute_values (shape m f)) (list-kept f (object_at t.values.objects (loaded_number n o)) ∙ kept o f attribute)

  flags : (o : ObjectNo) (f : FeatureNo) → kept_flag t.values (node.Object (loaded_number n o)) f ≡ ((shape m f).is_unsettable && ((shape m f).is_single && not (is_nil (values_in doc o f))))
  flags o f =
      let a = shape m f in
      let x = object_at t.values.objects (loaded_number n o) in
      flag-kept m f x (legal-at (IsLegalObject m) t.values.objects (loaded_number n o).0 tt made.objects)
      ∙ elim a.is_reference as (λ b. a.is_reference ≡ b → (a.is_unsettable && (a.is_single && not (is_nil (stored_for f x).list))) ≡ (a.is_unsettable && (a.is_single && not (is_nil (values_in doc o f))))) [
        | true ↦ λ reference.
            let never = (reference-plain m f reference).0 in
            ap (λ (b : Bool). b && (a.is_single && not (is_nil (stored_for f x).list))) never ∙ sym (ap (λ (b : Bool). b && (a.is_single && not (is_nil (values_in doc o f)))) never)
        | false ↦ λ attribute. ap (λ (vs : List Value). a.is_unsettable && (a.is_single && not (is_nil vs))) (kept o f attribute)
      ] refl

  ---------------------------------------------------------------- references

  references : (o : ObjectNo) (f : FeatureNo) → (shape m f).is_reference ≡ true → lookups.is_container m f ≡ false → values_at t (object_end n o f) ≡ map (loaded_value n) (values_in doc o f)
  references o f reference plain =
      let now : end t.links (object_end n o f) ≡ map (loaded_value n) (values_in doc o f) =
      elim (sides m whole.kinds f reference) [
        | inl side ↦ linked-near s k doc legal late read o f side
        | inr side ↦ linked-values s k doc legal late read o f reference (plain-pair m f side.0 plain side.1.pair)
      ] in
      values-linked t (object_end n o f) reference ∙ now

  module _ (o : ObjectNo) (g f : FeatureNo) (container : IsContainer m g f) where
    abbrev sources : List Value
    sources = sources_from n (λ (x : DocObject). values_under x f) o 0 doc.objects

    contains : (shape m f).containing ≡ Some f
    contains = container-contains m g f container.0 container.1

    holds : (shape m g).containing ≡ Some f
    holds = whole.kinds.one_container g f container.1 ∙ contains

    side : IsFarSide m g f
    side = elim (sides m whole.kinds g (opposite-reference m g f container.1)) [
      | inl near ↦ absurd (near.alone f (λ h other. same_Some h f (sym other ∙ contains)) (near-contained m f f (contains-reference m f f contains) contains) (whole.kinds.inverse g f container.1))
      | inr far ↦ subst (λ (x : FeatureNo). IsFarSide m g x) (same_Some far.0 f (sym far.1.pair ∙ container.1)) far.1
    ]

    shown : values_at t (object_end n o g) ≡ sources
    shown = values-linked t (object_end n o g) (opposite-reference m g f container.1) ∙ linked-held s k doc legal late read o g f f side holds

    only : (us : List Value) (j : ℕ) (w : Value) → sources ≡ us → slice_get us j ≡ Some w → us ≡ w ∷ []
    only [] j w is at = absurd (none-some w at)
    only (u ∷ []) zero w is at = ap (λ (x : Value). x ∷ []) (same_Some u w at)
    only (u ∷ []) (suc j) w is at = absurd (none-some w at)
    only (u ∷ v ∷ vs) j w is at = absurd (no-second s k doc legal late read o f f contains u v vs is)

    containers : (b : ObjectNo) → IsWrittenWith doc b f o → values_at t (object_end n o g) ≡ value.Object (loaded_number n b) ∷ []
    containers b has =
        let x = object-there doc b f has.0 (value.Object o) has.1 in
        let from = at-source n (λ (y : DocObject). values_under y f) o doc.objects b x.0 has.0 x.1 x.2 in
        shown ∙ only sources from.0 (value.Object (loaded_number n b)) refl from.1

    no_containers : ((b : ObjectNo) → IsWrittenWith doc b f o → ⊥) → values_at t (object_end n o g) ≡ []
    no_containers none = shown ∙ by sources refl
      where
        by : (us : List Value) → sources ≡ us → sources ≡ []
        by [] is = is
        by (u ∷ us) is =
            let x = source-at n (λ (y : DocObject). values_under y f) o doc.objects 0 u (ap (λ (vs : List Value). slice_get vs 0) is) in
            absurd (none x.0 (x.4.0, there-object doc x.0 f x.1 x.4.0 (value.Object o) x.2 x.4.1))

  ---------------------------------------------------------------- holders

  holders : (o b : ObjectNo) (f : FeatureNo) → is_containment m f ≡ true → IsWrittenWith doc o f b → (reading t).holder (node.Object (loaded_number n b)) ≡ Some (object_end n o f)
  holders o b f contains has =
      let own = contains-itself f (shape m f).containing contains in
      let plain : IsPlainFeature m f = λ h other. same_Some h f (sym other ∙ own) in
      let reference = contains-reference m f f own in
      stands-held t (loaded-legal s k doc legal early late read) (object_end n o f) has.0 (loaded_number n b) own
      (ap (λ (vs : List Value). slice_get vs has.0) (linked-values s k doc legal late read o f reference plain) ∙ loaded-at n (values_in doc o f) has.0 (value.Object b) has.1)

  roots-held : (i : ℕ) (o : ObjectNo) → slice_get doc.roots i ≡ Some o → (reading t).holder (node.Object (loaded_number n o)) ≡ Some (contents_end m k)
  roots-held i o at =
      stands-held t (loaded-legal s k doc legal early late read) (contents_end m k) i (loaded_number n o) (ap (λ (a : Shape). a.containing) (contents-shape m))
      (ap (λ (vs : List Value). slice_get vs i) (linked-roots s k doc legal late read) ∙ at-map (λ (x : ObjectNo). value.Object (loaded_number n x)) doc.roots i o at)

  ---------------------------------------------------------------- all else

  -- an object that existed before stores the same lists as before
  old-state : (o : ObjectNo) → comes_with (reading s) (Load k doc) (node.Object o) ≡ false → object_at t.values.objects o ≡ object_at s.values.objects o
  old-state o old = made.below o (old-made s k doc legal early late read o old)

  old-flag : (x : Node) (f : FeatureNo) → comes_with (reading s) (Load k doc) x ≡ false → kept_flag t.values x f ≡ kept_flag s.values x f
  old-flag (node.Object o) f old = ap (λ (y : Option ObjectState). unwrap_or (option_map (λ (z : ObjectState). (stored_under z f).flag) y) false) (old-state o old)
  old-flag (node.Resource j) f old = refl

  old-kept : (x : Node) (f : FeatureNo) → comes_with (reading s) (Load k doc) x ≡ false → kept_values t.values x f ≡ kept_values s.values x f
  old-kept (node.Object o) f old = ap (λ (y : Option ObjectState). unwrap_or (option_map (λ (z : ObjectState). (stored_under z f).list) y) []) (old-state o old)
  old-kept (node.Resource j) f old = refl

  old-values : (d : End) → comes_with (reading s) (Load k doc) d.node ≡ false → (contents_end m k ≡ d → ⊥) → values_at t d ≡ values_at s d
  old-values d old other =
      let shown = λ (x : ValuesState). attribute_values (shape m d.feature) (kept_values x d.node d.feature) in
      elim (shape m d.feature).is_reference as (λ b. (if b then end t.links d else shown t.values) ≡ (if b then end s.links d else shown s.values)) [
        | true ↦ linked-before s k doc legal late read d old other
        | false ↦ ap (attribute_values (shape m d.feature)) (old-kept d.node d.feature old)
      ]

  ---------------------------------------------------------------- all together

  objects-read : HasObjectsOf (reading s) doc (reading (model_after s (Load k doc)))
  objects-read = record {
    next = made.count;
    classes = made.classes;
    attributes = attributes;
    flags = flags;
    references = references;
    containers = λ o b f c container has. containers o f c container b has;
    no_containers = λ o f c container none. no_containers o f c container none;
    holders = holders;
  }

  roots-read : HasRootsOf (reading s) k doc (reading (model_after s (Load k doc)))
  roots-read = record {
    contents = values-linked t (contents_end m k) (ap (λ (a : Shape). a.is_reference) (contents-shape m)) ∙ linked-roots s k doc legal late read;
    holders = roots-held;
  }

  others-read : IsElseAsBefore (reading s) k doc (reading (model_after s (Load k doc)))
  others-read = record {
    metamodel = refl;
    uris = made.uris;
    classes = λ o low. ap (option_map (λ (x : ObjectState). x.class)) (made.below o low);
    values = old-values;
    flags = λ d old. old-flag d.node d.feature old;
    holders = holder-stays s k doc legal early late read;
    above = above-stays s k doc legal early late read;
  }

pub loads-ends : (s : Model) (k : ResourceNo) (doc : Doc) → LoadsEnds s k doc
loads-ends s k doc legal early late read = record {
  objects = objects-read s k doc legal early late read;
  roots = roots-read s k doc legal early late read;
  others = others-read s k doc legal early late read;
}
