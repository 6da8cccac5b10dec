-- The values that all contents of a document give an end, in the order of the objects.
use Rattle.std.proofs.Common.{◌≡◌, ◌∙◌, ◌+◌, ℕ, Bool, true, false, cond, List, [], Option, Some, None, refl, sym, ap, arith}
use Rattle.std.specs.Prelude.{flat_map, nat_eq, slice_get}
use Rattle.std.specs.List.{AllByRecursion, enumerate_from}
use Rattle.std.specs.Option.{option_map_or}
use Rattle.mm_types.specs.Resolved.{Metamodel}
use Rattle.mm_types.specs.Same.{same_feature}
use Rattle.mm_types.specs.declared.numbers.FeatureNo.{FeatureNo}
use Rattle.mm_types.specs.declared.numbers.ObjectNo.{ObjectNo}
use Rattle.mm_types.specs.declared.value.Value.{Value}
use Rattle.resource_docs.specs.Read.{values_in, values_under}
use Rattle.resource_docs.specs.declared.doc.Content.{Content}
use Rattle.resource_docs.specs.declared.doc.Doc.{Doc}
use Rattle.resource_docs.specs.declared.doc.DocObject.{DocObject}
use Rattle.doc_loader.specs.Loading.{of_contents, of_object}
use Rattle.doc_loader.proofs.PairLemmas.{Apart, all-both, all-every, all-from_at, all-more, numbered-at}
use Rattle.doc_loader.proofs.SoundLemmas.{AreSoundContents, HaveOtherFeatures, IsSound, IsSoundContent}
use Rattle.doc_loader.proofs.SourceLemmas.{flat_map-alike, flat_map-flat_map, flat_map-none, one-content, one-number}

module _ (m : Metamodel) (doc : Doc) (sound : IsSound m doc) where
  all-apart : AllByRecursion (λ y. AreSoundContents m doc y × Apart HaveOtherFeatures y.1.contents) (enumerate_from 0 doc.objects)
  all-apart = all-both (AreSoundContents m doc) (λ y. Apart HaveOtherFeatures y.1.contents) (enumerate_from 0 doc.objects) sound.contents
      (all-from_at (λ (y : ℕ × DocObject). Apart HaveOtherFeatures y.1.contents) (enumerate_from 0 doc.objects) (λ k y at. sound.others k y.1 (numbered-at doc.objects 0 k y at).1))

module _ {X Y : Type 0} (make : ObjectNo → Content → List X) (h : X → List Y) where
  abbrev pub gained : ObjectNo → Content → List Y
  gained o c = flat_map h (make o c)

  pub by-contents : (doc : Doc) → flat_map h (of_contents make doc) ≡ of_contents (λ o c. flat_map h (make o c)) doc
  by-contents doc =
      flat_map-flat_map h (of_object make) (enumerate_from 0 doc.objects)
      ∙ flat_map-alike (λ y. flat_map h (of_object make y)) (of_object gained) (enumerate_from 0 doc.objects)
      (all-every (λ (y : ℕ × DocObject). flat_map h (of_object make y) ≡ of_object gained y) (enumerate_from 0 doc.objects) (λ y. flat_map-flat_map h (make (record { 0 = y.0 })) y.1.contents))

  module _ (m : Metamodel) (doc : Doc) (sound : IsSound m doc) where
    -- the case that a content gives values if it is of a given feature
    pub gathered : (f : FeatureNo) (g : ℕ → List Value → List Y) → ((i : ℕ) → g i [] ≡ []) → ((o : ObjectNo) (c : Content) → IsSoundContent m doc o c → flat_map h (make o c) ≡ cond (same_feature f c.feature) (g o.0 c.values) [])
        → flat_map h (of_contents make doc) ≡ flat_map (λ (y : ℕ × DocObject). g y.0 (values_under y.1 f)) (enumerate_from 0 doc.objects)
    gathered f g nil each =
        by-contents doc
        ∙ flat_map-alike (of_object gained) (λ (y : ℕ × DocObject). g y.0 (values_under y.1 f)) (enumerate_from 0 doc.objects)
        (all-more (λ y. AreSoundContents m doc y × Apart HaveOtherFeatures y.1.contents) (λ (y : ℕ × DocObject). of_object gained y ≡ g y.0 (values_under y.1 f)) (enumerate_from 0 doc.objects)
        (λ y s.
        flat_map-alike (gained (record { 0 = y.0 })) (λ (c : Content). cond (same_feature f c.feature) (g y.0 c.values) []) y.1.contents
        (all-more (IsSoundContent m doc (record { 0 = y.0 })) (λ c. gained (record { 0 = y.0 }) c ≡ cond (same_feature f c.feature) (g y.0 c.values) []) y.1.contents (λ c t. each (record { 0 = y.0 }) c t) s.0)
        ∙ one-content f (g y.0) y.1.contents (nil y.0) s.1) (all-apart m doc sound))

    -- the case that a content gives values if it is also of a given object
    pub gathered-one : (a : ObjectNo) (f : FeatureNo) (g : List Value → List Y) → g [] ≡ [] → ((o : ObjectNo) (c : Content) → IsSoundContent m doc o c → flat_map h (make o c) ≡ cond (same_feature f c.feature) (cond (nat_eq o.0 a.0) (g c.values) []) [])
        → flat_map h (of_contents make doc) ≡ g (values_in doc a f)
    gathered-one a f g nil each =
        gathered f (λ i vs. cond (nat_eq i a.0) (g vs) []) (λ i. both-nil (nat_eq i a.0)) each
        ∙ ap (λ (k : ℕ). flat_map (λ (y : ℕ × DocObject). cond (nat_eq y.0 k) (g (values_under y.1 f)) []) (enumerate_from 0 doc.objects)) same
        ∙ one-number (λ (x : DocObject). g (values_under x f)) a.0 0 doc.objects
        ∙ by (slice_get doc.objects a.0)
      where
        same : a.0 ≡ 0 + a.0
        same = omega arith

        both-nil : (t : Bool) → cond t (g []) [] ≡ []
        both-nil true = nil
        both-nil false = refl

        by : (x : Option DocObject) → option_map_or (λ (x : DocObject). g (values_under x f)) x [] ≡ g (option_map_or (λ x. values_under x f) x [])
        by None = sym nil
        by (Some x) = refl

    pub gathered-none : ((o : ObjectNo) (c : Content) → IsSoundContent m doc o c → flat_map h (make o c) ≡ []) → flat_map h (of_contents make doc) ≡ []
    gathered-none each =
        by-contents doc
        ∙ flat_map-none (of_object gained) (enumerate_from 0 doc.objects)
        (all-more (AreSoundContents m doc) (λ (y : ℕ × DocObject). of_object gained y ≡ []) (enumerate_from 0 doc.objects)
        (λ y s. flat_map-none (gained (record { 0 = y.0 })) y.1.contents (all-more (IsSoundContent m doc (record { 0 = y.0 })) (λ c. gained (record { 0 = y.0 }) c ≡ []) y.1.contents (λ c t. each (record { 0 = y.0 }) c t) s)) sound.contents)
