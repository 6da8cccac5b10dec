-- The JSON that is written for an object does not depend on the levels that are left, if they are enough.
use Rattle.std.proofs.Common.{◌≡◌, ◌∙◌, ◌+◌, ◌<◌, ◌≤◌, ℕ, zero, suc, true, false, List, [], ◌∷◌, Some, arith, codes, length, map, slice_get, refl, sym, ap, if◌then◌else◌}
use Rattle.std.specs.Prelude.{option_and_then}
use Rattle.serde_json.specs.Data.{Data, array, object, string}
use Rattle.serde_json.specs.View.{items_of}
use Rattle.mm_types.specs.Ends.{value_in}
use Rattle.mm_types.specs.Lookups as lookups
use Rattle.mm_types.specs.Shapes.{is_containment, shape}
use Rattle.mm_types.specs.declared.numbers.FeatureNo.{FeatureNo}
use Rattle.mm_types.specs.declared.numbers.Node.{Node}
use Rattle.mm_types.specs.declared.numbers.Node.TheVariants as node
use Rattle.mm_types.specs.declared.numbers.ObjectNo.{ObjectNo}
use Rattle.mm_types.specs.declared.numbers.ResourceNo.{ResourceNo}
use Rattle.mm_types.specs.declared.value.Value.{Value}
use Rattle.mm_types.specs.declared.value.Value.TheVariants as value
use Rattle.models.specs.Legal.{IsLegal}
use Rattle.models.specs.Model.{Model, reading, values_at}
use Rattle.models.specs.Reading.{Reading, at_end, is_live, object_of, objects_of}
use Rattle.containment.proofs.PartLemmas.{IsPart, contains-itself, contains-reference, end-made, holder-at, live-made, values-linked}
use Rattle.containment.proofs.TreeLemmas.{depth, part-deeper, part-shallow, some-made}
use Rattle.fragment_paths.proofs.ObjectLemmas.{all-objects, objects-get}
use Rattle.doc_writer.proofs.RootLemmas.{all-live}
use Rattle.doc_writer.specs.Document.{class_name, content_data, feature_member, members, object_data, reference_text, two_members, value_data}
use Rattle.doc_writer.specs.Written.{written_features}
use Rattle.round_trip.specs.Parts.{data_of, features_data}
use Rattle.round_trip.proofs.PartsListLemmas.{all-passing}

---------------------------------------------------------------- the same parts

-- two ways to write parts that agree on the objects of a list
abbrev AgreeOn : Reading → FeatureNo → (ObjectNo → Data) → (ObjectNo → Data) → List Value → Type 0
AgreeOn r f p q vs = (i : ℕ) (c : ObjectNo) → is_containment r.metamodel f ≡ true → slice_get vs i ≡ Some (value.Object c) → p c ≡ q c

module _ (r : Reading) (k : ResourceNo) (p q : ObjectNo → Data) where
  same-value : (f : FeatureNo) (v : Value) → ((c : ObjectNo) → is_containment r.metamodel f ≡ true → v ≡ value.Object c → p c ≡ q c) → value_data r k p f v ≡ value_data r k q f v
  same-value f (value.Object o) same =
      elim (is_containment r.metamodel f) as (λ b. is_containment r.metamodel f ≡ b → (if b then p o else string (reference_text r k o)) ≡ (if b then q o else string (reference_text r k o))) [
        | true ↦ λ contains. same o contains refl
        | false ↦ λ _. refl
      ] refl
  same-value f _ same = refl

  same-first : (f : FeatureNo) (vs : List Value) → AgreeOn r f p q vs → value_data r k p f (value_in vs 0) ≡ value_data r k q f (value_in vs 0)
  same-first f [] same = refl
  same-first f (v ∷ vs) same = same-value f v (λ c contains is. same 0 c contains (ap Some is))

  same-values : (f : FeatureNo) (vs : List Value) → AgreeOn r f p q vs → map (value_data r k p f) vs ≡ map (value_data r k q f) vs
  same-values f [] same = refl
  same-values f (v ∷ vs) same =
      let first = same-value f v (λ c contains is. same 0 c contains (ap Some is)) in
      let rest = same-values f vs (λ i c contains at. same (suc i) c contains at) in
      λ i. first i ∷ rest i

  -- the values of a feature are written in the same way
  same-content : (o : ObjectNo) (f : FeatureNo) → AgreeOn r f p q (r.values (at_end (node.Object o) f)) → content_data r k p o f ≡ content_data r k q o f
  same-content o f same =
      let vs = r.values (at_end (node.Object o) f) in
      elim (shape r.metamodel f).is_single as (λ b. (if b then value_data r k p f (value_in vs 0) else array (items_of (map (value_data r k p f) vs))) ≡ (if b then value_data r k q f (value_in vs 0) else array (items_of (map (value_data r k q f) vs)))) [
        | true ↦ same-first f vs same
        | false ↦ ap (λ ds. array (items_of ds)) (same-values f vs same)
      ]

  same-members : (o : ObjectNo) (fs : List FeatureNo) → ((f : FeatureNo) → AgreeOn r f p q (r.values (at_end (node.Object o) f))) → map (feature_member r k p o) fs ≡ map (feature_member r k q o) fs
  same-members o [] same = refl
  same-members o (f ∷ fs) same = let first = same-content o f (same f) in let rest = same-members o fs same in λ i. (lookups.feature_name r.metamodel f, first i) ∷ rest i

---------------------------------------------------------------- levels

module _ (s : Model) (legal : IsLegal s) where
  -- an object that is under a containment lives
  pub live-under : (n : Node) (f : FeatureNo) (i : ℕ) (c : ObjectNo) → is_containment s.metamodel f ≡ true → slice_get (values_at s (at_end n f)) i ≡ Some (value.Object c) → is_live (reading s) c ≡ true
  live-under n f i c contains at =
      let e = at_end n f in
      let refers = contains-reference s.metamodel f f (contains-itself f (shape s.metamodel f).containing contains) in
      all-passing (is_live (reading s)) (objects_of (values_at s e)) i c (all-live s e legal refers)
      (sym (objects-get (values_at s e) i (all-objects s e legal contains)) ∙ ap (option_and_then object_of) at)

  -- an object that is under a containment is a part of the node
  part-under : (n : Node) (f : FeatureNo) (i : ℕ) (c : ObjectNo) → is_containment s.metamodel f ≡ true → slice_get (values_at s (at_end n f)) i ≡ Some (value.Object c) → IsPart s n c
  part-under n f i c contains at =
      let e = at_end n f in
      let refers = contains-reference s.metamodel f f (contains-itself f (shape s.metamodel f).containing contains) in
      record {
        whole = end-made s e i (value.Object c) legal (ap (λ (vs : List Value). slice_get vs i) (sym (values-linked s e refers)) ∙ at);
        made = live-made s c (live-under n f i c contains at);
        by = e;
        held = holder-at s legal n f contains i c at;
        here = refl;
      }

  -- if there are more levels than the deepest object has, one more level changes nothing
  more-levels : (k : ResourceNo) (n : ℕ) (o : ObjectNo) → 0 < n → length s.values.objects ≤ n + depth s legal o → object_data (reading s) k (suc n) o ≡ object_data (reading s) k n o
  more-levels k zero o some far = absurd (omega (arith, some))
  more-levels k (suc n) o some far =
      let r = reading s in
      ap (λ ms. two_members (codes "class") (string (class_name r o)) (codes "features") (object (members ms)))
      (same-members r k (object_data r k (suc n)) (object_data r k n) o (written_features r o) (λ f i c contains at.
      let part = part-under (node.Object o) f i c contains at in
      let deeper = part-deeper s legal o c part in
      let shallow = part-shallow s legal o c part in
      more-levels k n c (omega (arith, deeper, shallow, far)) (omega (arith, deeper, far))))

  -- an object that lives is written with its features
  pub data-is : (k : ResourceNo) (o : ObjectNo) → is_live (reading s) o ≡ true
      → data_of (reading s) k o ≡ two_members (codes "class") (string (class_name (reading s) o)) (codes "features") (object (features_data (reading s) k o))
  data-is k o live = sym (more-levels k (length s.values.objects) o (some-made s o live) (omega arith))
