-- Each value that is written is read as it was, whatever the kind of its feature.
use Rattle.std.proofs.Common.{◌≡◌, ◌∙◌, ℕ, Bool, true, false, Contains, List, slice_get, is_some, Option, Some, if◌then◌else◌, refl, sym, ap}
use Rattle.std.specs.Option.{option_map_or}
use Rattle.std.proofs.lemmas.Bool.{and_parts, not-true}
use Rattle.serde_json.specs.Data.{Data, string}
use Rattle.mm_types.specs.Lookups as lookups
use Rattle.mm_types.specs.Shapes.{Shape, shape}
use Rattle.mm_types.specs.declared.feature.DataType.{DataType}
use Rattle.mm_types.specs.declared.feature.Feature.{Feature}
use Rattle.mm_types.specs.declared.feature.Kind.{Kind}
use Rattle.mm_types.specs.declared.feature.Kind.TheVariants.{Attribute, Reference}
use Rattle.mm_types.specs.declared.numbers.ClassNo.{ClassNo}
use Rattle.mm_types.specs.declared.numbers.FeatureNo.{FeatureNo}
use Rattle.mm_types.specs.declared.numbers.Node.TheVariants as node
use Rattle.mm_types.specs.declared.numbers.ObjectNo.{ObjectNo}
use Rattle.mm_types.specs.declared.numbers.ResourceNo.{ResourceNo}
use Rattle.mm_types.specs.declared.value.Value.{Value}
use Rattle.models.specs.Legal as legal
use Rattle.models.specs.Legal.{IsLegal}
use Rattle.models.specs.Model.{Model, reading}
use Rattle.models.specs.Reading.{all_features_of, at_end, is_set}
use Rattle.models.specs.Steady.{HasSteadyTexts}
use Rattle.doc_parts.specs.Contents.{is_value}
use Rattle.doc_writer.specs.Document.{reference_text, value_data}
use Rattle.doc_writer.specs.Written.{is_written, objects_in, written_features}
use Rattle.resource_docs.specs.Texts.{base_of}
use Rattle.resource_docs.specs.Values.{reference_value, value_of}
use Rattle.round_trip.specs.PartsLaws.{AreParts}
use Rattle.round_trip.specs.Parts.{data_of, path_in}
use Rattle.round_trip.specs.TextsLaws.{LeadsBack}
use Rattle.round_trip.proofs.AttributeLemmas.{attribute-back}
use Rattle.round_trip.proofs.ContainedLemmas.{part-good, part-read}
use Rattle.round_trip.proofs.KeptLemmas.{kept-legal}
use Rattle.round_trip.proofs.ValuesListLemmas.{passes-kept}
use Rattle.round_trip.proofs.PlacedLemmas.{placed-object}
use Rattle.round_trip.proofs.ReferenceLemmas.{object-read, proxy-read, proxy-short, text-short}
use Rattle.round_trip.proofs.ValuesTargetLemmas.{each-part, each-target, links-only, refers, shape-of, steady-there}
use Rattle.round_trip.specs.Copied.{renamed_value}
use Rattle.round_trip.specs.ValuesLaws.{AreReadAs, parts_of}
use Rattle.round_trip.specs.Readable.{IsReadable}

module _ (s : Model) (good : IsLegal s) (steady : HasSteadyTexts s) (k : ResourceNo) (uri : List ℕ) (parts : AreParts (reading s) k) (back : LeadsBack (reading s) k uri) (ok : IsReadable (reading s) k uri)
    (o : ObjectNo) (f : FeatureNo) (g : Feature) (i : ℕ) (inside : Contains (objects_in (reading s) k) o) (set : Contains (written_features (reading s) o) f) (known : lookups.feature s.metamodel f ≡ Some g) where
  -- a value of a kind of feature is read as it was
  abbrev IsReadBy : Kind → Value → Type 0
  IsReadBy x v =
      (is_value s.metamodel (shape s.metamodel f).is_single x (value_data (reading s) k (data_of (reading s) k) f v) ≡ true)
      × (value_of s.metamodel (base_of uri) (parts_of (reading s) k) (path_in (reading s) o) f x (i, value_data (reading s) k (data_of (reading s) k) f v) ≡ Some (renamed_value (reading s) (objects_in (reading s) k) v))

  written : (is_set (reading s) (at_end (node.Object o) f) ≡ true) × (lookups.is_container s.metamodel f ≡ false)
  written =
      let both = and_parts _ _ (passes-kept (is_written (reading s) o) (all_features_of (reading s) (node.Object o)) f set) in
      (both.0, not-true (lookups.is_container s.metamodel f) both.1)

  module _ (v : Value) (at : slice_get ((reading s).values (at_end (node.Object o) f)) i ≡ Some v) where
    attribute-read : (t : DataType) (unique unsettable : Bool) (default : Value) → g.kind ≡ Attribute t unique unsettable default → IsReadBy (Attribute t unique unsettable default) v
    attribute-read t unique unsettable default kind =
        let r = reading s in
        let m = s.metamodel in
        let form = shape-of m f g (Attribute t unique unsettable default) known kind in
        let single : (shape m f).is_single ≡ lookups.is_single g = ap (λ (a : Shape). a.is_single) form in
        let kept = and_parts (lookups.keeps m f v) (legal.is_short v) (kept-legal s good o f i v (ap (λ (a : Shape). a.is_reference) form) written.0 at) in
        let typed = ap (λ (b : Bool). lookups.is_attribute_value m b t v) single
        ∙ sym (ap (λ (x : Option Feature). option_map_or (λ y. lookups.is_of_attribute m (lookups.is_single y) y.kind v) x false) known ∙ ap (λ (x : Kind). lookups.is_of_attribute m (lookups.is_single g) x v) kind)
        ∙ kept.0 in
        let read = attribute-back r k (data_of r k) (objects_in r k) f (shape m f).is_single good.metamodel g known t unique unsettable default kind v typed kept.1 in
        (ap (λ (x : Option Value). is_some x) read.reads, read.reads ∙ ap Some (sym read.same))

    contained-read : (target : ClassNo) (opposite : Option FeatureNo) → g.kind ≡ Reference target true opposite → IsReadBy (Reference target true opposite) v
    contained-read target opposite kind =
        each-part s good o f g i v target opposite known kind at (IsReadBy (Reference target true opposite)) (λ c is conforms.
        let there = at ∙ ap Some is in (
          part-good s good k o f g i c target opposite known kind inside there parts conforms,
          part-read s good k o f g i c target opposite known kind inside there (refers s good o f g i v target true opposite known kind at),
        ))

    link-read : (target : ClassNo) (opposite : Option FeatureNo) → g.kind ≡ Reference target false opposite → IsReadBy (Reference target false opposite) v
    link-read target opposite kind =
        let r = reading s in
        let m = s.metamodel in
        let links = links-only m f g target opposite known kind written.1 in
        each-target s good o f g i v target false opposite known kind at (IsReadBy (Reference target false opposite))
        (λ b is conforms.
        let there = at ∙ ap Some is in
        let text = ap (λ (t : Bool). if t then data_of r k b else string (reference_text r k b)) links in (
          ap (λ (d : Data). is_value m (shape m f).is_single (Reference target false opposite) d) text ∙ text-short s good k uri back ok o f i inside set links b there,
          ap (λ (d : Data). reference_value m (base_of uri) (parts_of r k) target d) text ∙ object-read s good k uri back ok o f i inside set links b there parts target conforms,
        ))
        (λ t is _. let there = at ∙ ap Some is in (proxy-short s good k uri back ok o f i inside set links t there, proxy-read s good k uri back ok o f i inside set links t there (steady-there s good o f g i v target false opposite known kind at steady t is) target))

    value-read : (x : Kind) → g.kind ≡ x → IsReadBy x v
    value-read (Attribute t unique unsettable default) kind = attribute-read t unique unsettable default kind
    value-read (Reference target true opposite) kind = contained-read target opposite kind
    value-read (Reference target false opposite) kind = link-read target opposite kind

pub all-read : (s : Model) → IsLegal s → HasSteadyTexts s → (k : ResourceNo) (uri : List ℕ) → AreParts (reading s) k → LeadsBack (reading s) k uri → IsReadable (reading s) k uri → AreReadAs (reading s) k uri
all-read s good steady k uri parts back ok = record {
  objects = placed-object s good k;
  values = λ o f g i v inside set known at. let read = value-read s good steady k uri parts back ok o f g i inside set known v at g.kind refl in record { good = read.0; value = read.1 };
}
