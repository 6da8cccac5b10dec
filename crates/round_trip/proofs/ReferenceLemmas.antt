-- The JSON for a value of a reference is read as this value: an object of the resource by its number, and any other object as a proxy.
use Rattle.std.proofs.Common.{◌≡◌, ◌∙◌, ℕ, Bool, true, false, Contains, List, [], length, nat_eq, slice_get, not, is_some, Option, Some, None, option_map, unwrap_or, if◌then◌else◌, eq-eqb, eqb-true, le-leb, refl, sym, ap}
use Rattle.std.specs.Prelude.{option_and_then}
use Rattle.std.specs.List.{list_any}
use Rattle.std.specs.Option.{option_map_or, option_or}
use Rattle.std.proofs.lemmas.Bool.{false_from_ne_true, true≢false}
use Rattle.std.proofs.lemmas.Option.{none-some, slice_get-map}
use Rattle.serde_json.specs.Data.{string}
use Rattle.mm_types.specs.Lookups as lookups
use Rattle.mm_types.specs.Same.{same_object}
use Rattle.mm_types.specs.Shapes.{is_containment}
use Rattle.mm_types.specs.declared.limits.TheConstants.{TEXT_BYTES}
use Rattle.mm_types.specs.declared.numbers.ClassNo.{ClassNo}
use Rattle.mm_types.specs.declared.numbers.FeatureNo.{FeatureNo}
use Rattle.mm_types.specs.declared.numbers.Node.TheVariants as node
use Rattle.mm_types.specs.declared.numbers.ObjectNo.{ObjectNo}
use Rattle.mm_types.specs.declared.numbers.ResourceNo.{ResourceNo}
use Rattle.mm_types.specs.declared.refused.Refused.{Refused}
use Rattle.mm_types.specs.declared.refused.Refused.TheVariants.{Dangling}
use Rattle.mm_types.specs.declared.value.Value.TheVariants as value
use Rattle.web_uris.specs.Addresses.{IsSteadyProxy}
use Rattle.models.specs.Legal.{IsLegal}
use Rattle.models.specs.Model.{Model, reading}
use Rattle.models.specs.Reading.{at_end}
use Rattle.containment.specs.Above.{resource_of}
use Rattle.fragment_paths.specs.Fragments.{address, is_in}
use Rattle.doc_parts.specs.Contents.{conforms_to, is_short}
use Rattle.doc_parts.specs.Parts.{Part}
use Rattle.doc_writer.specs.Document.{reference_text}
use Rattle.doc_writer.specs.Saved.{has_dangling, is_dangling, reference_features, targets_under}
use Rattle.doc_writer.specs.Written.{objects_in, written_features}
use Rattle.resource_docs.specs.Texts.{base_of}
use Rattle.resource_docs.specs.Values.{led_to, object_of, reference_value}
use Rattle.resource_docs.specs.declared.referent.Referent.TheVariants.{Here, Elsewhere}
use Rattle.round_trip.specs.PartsLaws.{AreParts}
use Rattle.round_trip.specs.Parts.{part_of, path_in}
use Rattle.round_trip.specs.TextsLaws.{LeadsBack}
use Rattle.round_trip.proofs.ContainedLemmas.{renamed_value-here}
use Rattle.round_trip.proofs.InsideLemmas.{inside-written, written-inside}
use Rattle.round_trip.proofs.ValuesListLemmas.{found-among, among-found, is-kept, none-passes, object-among, object-at, object-nowhere, stands}
use Rattle.round_trip.proofs.PlacedLemmas.{placed-object}
use Rattle.round_trip.specs.Copied.{renamed_value}
use Rattle.round_trip.specs.ValuesLaws.{parts_of}
use Rattle.round_trip.specs.Readable.{Holds, IsReadable}

---------------------------------------------------------------- no target is in no resource

first-none : (b : Bool) (more : Option Refused) → option_or (if b then Some Dangling else None) more ≡ None → b ≡ false
first-none true more h = absurd (none-some Dangling (sym h))
first-none false more h = refl

some-one : {X : Type 0} (x : Option X) → not (is_some x) ≡ false → (y : X) × (x ≡ Some y)
some-one None h = absurd (true≢false h)
some-one (Some y) h = (y, refl)

module _ (s : Model) (legal : IsLegal s) (k : ResourceNo) (uri : List ℕ) (back : LeadsBack (reading s) k uri) (ok : IsReadable (reading s) k uri) (o : ObjectNo) (f : FeatureNo) (i : ℕ)
    (inside : Contains (objects_in (reading s) k) o) (set : Contains (written_features (reading s) o) f) (links : is_containment s.metamodel f ≡ false) where
  is-reference : Contains (reference_features (reading s) o) f
  is-reference = is-kept (λ g. not (is_containment s.metamodel g)) (written_features (reading s) o) f set (ap not links)

  module _ (b : ObjectNo) (at : slice_get ((reading s).values (at_end (node.Object o) f)) i ≡ Some (value.Object b)) where
    is-target : Contains (targets_under (reading s) o f) b
    is-target = object-among ((reading s).values (at_end (node.Object o) f)) i b at

    -- an object that is referred to is in a resource
    somewhere : (j : ResourceNo) × (resource_of (reading s).above b ≡ Some j)
    somewhere =
        let r = reading s in
        let none = first-none (list_any (has_dangling r) (objects_in r k)) _ ok.allowed in
        let here = none-passes (has_dangling r) (objects_in r k) o none inside in
        let there = none-passes (λ g. list_any (is_dangling r) (targets_under r o g)) (reference_features r o) f here is-reference in
        some-one (resource_of r.above b) (none-passes (is_dangling r) (targets_under r o f) b there is-target)

    -- the text of the reference is short
    pub text-short : is_short (reference_text (reading s) k b) ≡ true
    text-short = le-leb (length (reference_text (reading s) k b)) TEXT_BYTES (ok.short b (record { object = o; feature = f; inside = inside; written = is-reference; there = is-target }))

    ---------------------------------------------------------------- objects

    -- an object of the resource is found by its number, if its class conforms
    module _ (parts : AreParts (reading s) k) (class : ClassNo) (conforms : option_map_or (λ c. lookups.conforms s.metamodel c class) ((reading s).class b) false ≡ true) where
      led-here : Contains (objects_in (reading s) k) b → led_to s.metamodel (parts_of (reading s) k) class (Here (path_in (reading s) b)) ≡ Some (renamed_value (reading s) (objects_in (reading s) k) (value.Object b))
      led-here written =
          let r = reading s in
          let m = s.metamodel in
          let ps = parts_of r k in
          let os = objects_in r k in
          let at = object-at os b (found-among os b written) in
          let found = λ (n : ℕ). option_and_then (λ (q : Part). if conforms_to m class q.json then Some (object_of n) else None) (slice_get ps n) in
          let number = (placed-object s legal k b written).number ∙ at.found in
          let part = slice_get-map (part_of r k) os at.number ∙ ap (option_map (part_of r k)) at.there in
          let good = ap (λ (x : Option ClassNo). option_map_or (λ c. lookups.conforms m c class) x false) (parts.each b written).class ∙ conforms in
          ap (option_and_then found) number
          ∙ ap (option_and_then (λ (q : Part). if conforms_to m class q.json then Some (object_of at.number) else None)) part
          ∙ ap (λ (t : Bool). if t then Some (object_of at.number) else None) good
          ∙ sym (ap (option_map object_of) number)
          ∙ renamed_value-here s legal k b written

      -- an object of another resource is a proxy with its address
      led-elsewhere : is_in (reading s) k b ≡ false → Some (value.Proxy (unwrap_or (address (reading s) b) [])) ≡ Some (renamed_value (reading s) (objects_in (reading s) k) (value.Object b))
      led-elsewhere out =
          let r = reading s in
          let os = objects_in r k in
          let none = false_from_ne_true (list_any (same_object b) os) (λ found.
          let within = written-inside s legal k b (among-found os b found) in
          true≢false (sym (ap (λ (x : Option ResourceNo). option_map_or (λ j. nat_eq j.0 k.0) x false) within ∙ eq-eqb k.0 k.0 refl) ∙ out)) in
          sym (ap (λ (x : Option ℕ). Some (option_map_or (λ (n : ℕ). value.Object (record { 0 = n })) x (value.Proxy (unwrap_or (address r b) [])))) (object-nowhere os b none))

      pub object-read : reference_value s.metamodel (base_of uri) (parts_of (reading s) k) class (string (reference_text (reading s) k b)) ≡ Some (renamed_value (reading s) (objects_in (reading s) k) (value.Object b))
      object-read =
          let r = reading s in
          let j = somewhere in
          ap (option_and_then (led_to s.metamodel (parts_of r k) class)) (back.object b j.0 j.1)
          ∙ elim (is_in r k b) as (λ t. is_in r k b ≡ t → led_to s.metamodel (parts_of r k) class (if t then Here (path_in r b) else Elsewhere (unwrap_or (address r b) [])) ≡ Some (renamed_value r (objects_in r k) (value.Object b))) [
            | true ↦ λ within.
                let number = eqb-true j.0.0 k.0 (sym (ap (λ (x : Option ResourceNo). option_map_or (λ l. nat_eq l.0 k.0) x false) j.1) ∙ within) in
                led-here (inside-written s legal k b (j.1 ∙ ap Some (λ n. record { 0 = number n })))
            | false ↦ λ out. led-elsewhere out
          ] refl

  ---------------------------------------------------------------- proxies

  module _ (t : List ℕ) (at : slice_get ((reading s).values (at_end (node.Object o) f)) i ≡ Some (value.Proxy t)) where
    held : Holds (reading s) k (value.Proxy t)
    held = record { object = o; feature = f; inside = inside; there = stands ((reading s).values (at_end (node.Object o) f)) i (value.Proxy t) at }

    pub proxy-short : is_short t ≡ true
    proxy-short = le-leb (length t) TEXT_BYTES (ok.short_proxies t held)

    pub proxy-read : IsSteadyProxy t → (class : ClassNo) → reference_value s.metamodel (base_of uri) (parts_of (reading s) k) class (string t) ≡ Some (value.Proxy t)
    proxy-read text class = ap (option_and_then (led_to s.metamodel (parts_of (reading s) k) class)) (back.proxy t text (ok.elsewhere t held))
