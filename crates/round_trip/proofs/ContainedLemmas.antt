-- The JSON that is written for an object under a containment reference is read as that object, by its number.
use Rattle.std.proofs.Common.{◌≡◌, ◌∙◌, ℕ, Bool, true, false, Contains, List, [], slice_get, is_some, Option, Some, None, option_map, unwrap_or, if◌then◌else◌, refl, sym, ap}
use Rattle.std.specs.Option.{option_map_or}
use Rattle.std.proofs.lemmas.Bool.{and_from, false≢true}
use Rattle.std.proofs.lemmas.Option.{none-some}
use Rattle.serde_json.specs.Data.{Data, null, boolean, number, string, array, object}
use Rattle.serde_json.specs.Find.{as_object}
use Rattle.mm_types.specs.Lookups as lookups
use Rattle.mm_types.specs.Shapes.{is_containment, shape}
use Rattle.mm_types.specs.declared.feature.Feature.{Feature}
use Rattle.mm_types.specs.declared.feature.Kind.TheVariants.{Reference}
use Rattle.mm_types.specs.declared.numbers.ClassNo.{ClassNo}
use Rattle.mm_types.specs.declared.numbers.FeatureNo.{FeatureNo}
use Rattle.mm_types.specs.declared.numbers.Node.TheVariants as node
use Rattle.mm_types.specs.declared.numbers.ObjectNo.{ObjectNo}
use Rattle.mm_types.specs.declared.numbers.ResourceNo.{ResourceNo}
use Rattle.mm_types.specs.declared.value.Value.{Value}
use Rattle.mm_types.specs.declared.value.Value.TheVariants as value
use Rattle.models.proofs.PlaceLemmas.{position-target}
use Rattle.models.specs.Legal.{IsLegal}
use Rattle.models.specs.Model.{Model, reading}
use Rattle.models.specs.Reading.{at_end}
use Rattle.containment.proofs.PartLemmas.{holder-at, values-linked}
use Rattle.web_uris.specs.Paths.{new_path, new_step, with_step}
use Rattle.web_uris.specs.declared.path.Path.{Path}
use Rattle.fragment_paths.proofs.UpLemmas.{path-part}
use Rattle.fragment_paths.specs.Fragments.{address, position_in, step_into}
use Rattle.doc_parts.specs.Contents.{may_stand}
use Rattle.doc_parts.specs.Layout.{Written, written_object}
use Rattle.doc_parts.specs.Parts.{number_of, step_to}
use Rattle.doc_writer.specs.Document.{object_under, reference_text}
use Rattle.doc_writer.specs.Written.{objects_in}
use Rattle.resource_docs.specs.Values.{object_of}
use Rattle.round_trip.specs.PartsLaws.{AreParts}
use Rattle.round_trip.specs.Parts.{data_of, path_in}
use Rattle.round_trip.proofs.InsideLemmas.{part-written, written-inside}
use Rattle.round_trip.proofs.ValuesListLemmas.{found-among, object-at}
use Rattle.round_trip.proofs.PlacedLemmas.{has-path, placed-object}
use Rattle.round_trip.proofs.ValuesTargetLemmas.{contains-parts}
use Rattle.round_trip.specs.Copied.{renamed_value}
use Rattle.round_trip.specs.ValuesLaws.{parts_of}

-- data with the layout of an object is a JSON object
written_object-object : (d : Data) (w : Written) → written_object d ≡ Some w → is_some (as_object d) ≡ true
unfolding written_object
written_object-object null w h = absurd (none-some w h)
written_object-object (boolean b) w h = absurd (none-some w h)
written_object-object (number n) w h = absurd (none-some w h)
written_object-object (string t) w h = absurd (none-some w h)
written_object-object (array ds) w h = absurd (none-some w h)
written_object-object (object ms) w h = refl

-- if there is a class, the result for no class does not matter
known-conforms : (p : ClassNo → Bool) (x : Option ClassNo) → option_map_or p x false ≡ true → option_map_or p x true ≡ true
known-conforms p None h = absurd (false≢true h)
known-conforms p (Some c) h = h

-- an object of the resource has in the document the number of its part
pub renamed_value-here : (s : Model) → IsLegal s → (k : ResourceNo) (c : ObjectNo) → Contains (objects_in (reading s) k) c
    → option_map object_of (number_of (parts_of (reading s) k) (path_in (reading s) c)) ≡ Some (renamed_value (reading s) (objects_in (reading s) k) (value.Object c))
renamed_value-here s legal k c written =
    let r = reading s in
    let os = objects_in r k in
    let at = object-at os c (found-among os c written) in
    ap (option_map object_of) ((placed-object s legal k c written).number ∙ at.found)
    ∙ sym (ap (λ (x : Option ℕ). Some (option_map_or (λ (n : ℕ). value.Object (record { 0 = n })) x (value.Proxy (unwrap_or (address r c) [])))) at.found)

module _ (s : Model) (legal : IsLegal s) (k : ResourceNo) (o : ObjectNo) (f : FeatureNo) (g : Feature) (i : ℕ) (c : ObjectNo) (target : ClassNo) (opposite : Option FeatureNo)
    (known : lookups.feature s.metamodel f ≡ Some g) (kind : g.kind ≡ Reference target true opposite) (inside : Contains (objects_in (reading s) k) o)
    (at : slice_get ((reading s).values (at_end (node.Object o) f)) i ≡ Some (value.Object c)) where
  contains : is_containment s.metamodel f ≡ true
  contains = contains-parts s.metamodel f g target opposite known kind

  there : Contains (objects_in (reading s) k) c
  there = part-written s legal k o f i c inside contains at

  -- the object itself is written, and not a reference to it
  part-data : object_under (reading s) k (data_of (reading s) k) f c ≡ data_of (reading s) k c
  part-data = ap (λ (b : Bool). if b then data_of (reading s) k c else string (reference_text (reading s) k c)) contains

  -- its path is the path of its container and one more step
  part-path : (shape s.metamodel f).is_reference ≡ true → with_step (path_in (reading s) o) (step_to s.metamodel f i) ≡ path_in (reading s) c
  part-path reference =
      let r = reading s in
      let e = at_end (node.Object o) f in
      let linked = ap (λ (vs : List Value). slice_get vs i) (sym (values-linked s e reference)) ∙ at in
      let place : position_in r e c ≡ i = ap (λ (x : Option ℕ). unwrap_or x 0) (sym (position-target s e (value.Object c) (Some i) legal reference linked)) in
      let h = holder-at s legal (node.Object o) f contains i c at in
      sym (ap (λ (x : Option Path). unwrap_or x (new_path 0 [])) (path-part s legal c e o h refl ∙ ap (option_map (λ q. with_step q (step_into r e c))) (has-path s legal k o (written-inside s legal k o inside)))
      ∙ ap (λ (n : ℕ). with_step (path_in r o) (new_step (lookups.feature_name s.metamodel f) (if (shape s.metamodel f).is_single then None else Some n))) place)

  -- so the object is read by the number of its own part
  pub part-read : (shape s.metamodel f).is_reference ≡ true → option_map object_of (number_of (parts_of (reading s) k) (with_step (path_in (reading s) o) (step_to s.metamodel f i)))
      ≡ Some (renamed_value (reading s) (objects_in (reading s) k) (value.Object c))
  part-read reference = ap (λ (q : Path). option_map object_of (number_of (parts_of (reading s) k) q)) (part-path reference) ∙ renamed_value-here s legal k c there

  module _ (parts : AreParts (reading s) k) (conforms : option_map_or (λ x. lookups.conforms s.metamodel x target) ((reading s).class c) false ≡ true) where
    -- the JSON that is written for an object whose class conforms is accepted there
    pub part-good : may_stand s.metamodel target (object_under (reading s) k (data_of (reading s) k) f c) ≡ true
    part-good =
        let part = parts.each c there in
        ap (may_stand s.metamodel target) part-data
        ∙ and_from _ _ (written_object-object (data_of (reading s) k c) _ part.written)
        (ap (λ (x : Option ClassNo). option_map_or (λ y. lookups.conforms s.metamodel y target) x true) part.class ∙ known-conforms (λ y. lookups.conforms s.metamodel y target) ((reading s).class c) conforms)
