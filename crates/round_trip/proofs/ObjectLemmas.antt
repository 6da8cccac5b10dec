-- An object that was saved is read with its class and its written features.
use Rattle.std.proofs.Common.{◌≡◌, ◌∙◌, ℕ, true, false, not, List, [], Option, Some, None, codes, get_or, map, option_map, refl, sym, ap, subst}
use Rattle.std.specs.Prelude.{filter_map, is_some, option_and_then, unwrap_or}
use Rattle.std.specs.List.{IsDistinct}
use Rattle.std.specs.Option.{option_map_or}
use Rattle.std.proofs.lemmas.Bool.{false≢true}
use Rattle.serde_json.specs.Data.{Members, object, string}
use Rattle.serde_json.proofs.OnLiterals.{serde_json_on_literals}
use Rattle.mm_types.specs.Lookups as lookups
use Rattle.mm_types.specs.Resolved.{Metamodel}
use Rattle.mm_types.specs.Same.{same_feature}
use Rattle.mm_types.specs.declared.class.Class.{Class}
use Rattle.mm_types.specs.declared.numbers.ClassNo.{ClassNo}
use Rattle.mm_types.specs.declared.numbers.Node.TheVariants as node
use Rattle.mm_types.specs.declared.numbers.ObjectNo.{ObjectNo}
use Rattle.mm_types.specs.declared.numbers.ResourceNo.{ResourceNo}
use Rattle.mm_values.specs.Values.{ObjectState}
use Rattle.models.specs.Legal.{IsLegal, IsLegalObject}
use Rattle.models.specs.Model.{Model, reading}
use Rattle.models.specs.Reading.{all_features_of, at_end, is_live, is_set}
use Rattle.containment.proofs.DistinctLemmas.{features-distinct}
use Rattle.containment.proofs.PartLemmas.{live-made}
use Rattle.json_fields.specs.Fields.{◌>>=◌}
use Rattle.doc_parts.specs.Layout.{Written, new_written, written_object}
use Rattle.doc_parts.specs.Parts as parts
use Rattle.doc_parts.specs.Parts.{entries_in, entry_at}
use Rattle.doc_writer.specs.Document.{class_name, content_data, two_members}
use Rattle.doc_writer.specs.Written.{written_features}
use Rattle.round_trip.specs.PartsLaws.{IsPart}
use Rattle.round_trip.specs.Parts.{data_of, entry_of, features_data}
use Rattle.doc_parts.proofs.ClassLemmas.{own-class}
use Rattle.round_trip.proofs.LevelLemmas.{data-is}
use Rattle.round_trip.proofs.NameLemmas.{NamesAreApart, entries-read, names-apart}

-- JSON that is written for an object is read as an object
written_object-read : (c : List ℕ) (ms : Members) → written_object (two_members (codes "class") (string c) (codes "features") (object ms)) ≡ Some (new_written c ms)
unfolding written_object serde_json_on_literals
written_object-read c ms = refl

---------------------------------------------------------------- the class of an object

-- the class of an object is one of the metamodel
record HasClass (s : Model) (o : ObjectNo) : Type 0 where
  class : ClassNo
  state : Class
  is : (reading s).class o ≡ Some class
  there : lookups.class s.metamodel class ≡ Some state

concrete-there : (m : Metamodel) (c : ClassNo) → lookups.is_concrete m c ≡ true → (k : Class) × (lookups.class m c ≡ Some k)
concrete-there m c h = elim (lookups.class m c) as (λ x. lookups.class m c ≡ x → option_map_or (λ k. not k.is_abstract) x false ≡ true → (k : Class) × (lookups.class m c ≡ Some k)) [
  | None ↦ λ _ concrete. absurd (false≢true concrete)
  | Some k ↦ λ is _. (k, is)
] refl h

-- an object that lives has a class of the metamodel
has-class : (s : Model) → IsLegal s → (o : ObjectNo) → is_live (reading s) o ≡ true → HasClass s o
has-class s legal o live = by (get_or s.values.objects o.0 None) refl (legal.objects o.0 None (live-made s o live)) live
  where
    by : (x : Option ObjectState) → get_or s.values.objects o.0 None ≡ x → IsLegalObject s.metamodel x → is_some (option_map (λ (t : ObjectState). t.class) x) ≡ true → HasClass s o
    by None here good h = absurd (false≢true h)
    by (Some t) here good h =
        let k = concrete-there s.metamodel t.class good.0 in
        record { class = t.class; state = k.0; is = ap (option_map (λ (t : ObjectState). t.class)) here; there = k.1 }

---------------------------------------------------------------- what is read of an object

module _ (s : Model) (legal : IsLegal s) (k : ResourceNo) (o : ObjectNo) (live : is_live (reading s) o ≡ true) where
  is-written_object : written_object (data_of (reading s) k o) ≡ Some (new_written (class_name (reading s) o) (features_data (reading s) k o))
  is-written_object = ap written_object (data-is s legal k o live) ∙ written_object-read (class_name (reading s) o) (features_data (reading s) k o)

  name-is : (h : HasClass s o) → class_name (reading s) o ≡ h.state.name
  name-is h =
      ap (λ (x : Option ClassNo). option_map_or (λ (c : Class). c.name) (option_and_then (lookups.class s.metamodel) x) []) h.is
      ∙ ap (λ (x : Option Class). option_map_or (λ (c : Class). c.name) x []) h.there

  -- the class is found by the name that is written
  by-name : (h : HasClass s o) → lookups.class_by_name s.metamodel (class_name (reading s) o) ≡ Some h.class
  by-name h = ap (lookups.class_by_name s.metamodel) (name-is h) ∙ own-class s.metamodel legal.metamodel h.class h.state h.there

  is-class : (h : HasClass s o) → parts.class_of s.metamodel (data_of (reading s) k o) ≡ (reading s).class o
  is-class h = ap (λ (w : Option Written). w >>= (λ w. lookups.class_by_name s.metamodel w.class)) is-written_object ∙ by-name h ∙ sym h.is

  known-is : (h : HasClass s o) → parts.class_and_members s.metamodel (data_of (reading s) k o) ≡ Some (h.class, features_data (reading s) k o)
  known-is h =
      ap (λ (w : Option Written). w >>= (λ w. option_map (λ (c : ClassNo). (c, w.features)) (lookups.class_by_name s.metamodel w.class))) is-written_object
      ∙ ap (option_map (λ (c : ClassNo). (c, features_data (reading s) k o))) (by-name h)

  features-are : (h : HasClass s o) → unwrap_or (option_and_then (lookups.features s.metamodel) ((reading s).class o)) [] ≡ unwrap_or (lookups.features s.metamodel h.class) []
  features-are h = ap (λ (x : Option ClassNo). unwrap_or (option_and_then (lookups.features s.metamodel) x) []) h.is

  apart : HasClass s o → NamesAreApart (lookups.feature_name s.metamodel) (all_features_of (reading s) (node.Object o))
  apart h =
      subst (NamesAreApart (lookups.feature_name s.metamodel)) (sym (features-are h))
      (names-apart s.metamodel legal.metamodel h.class (subst (IsDistinct same_feature) (features-are h) (features-distinct s legal (node.Object o))))

  entries-are : HasClass s o → parts.entries s.metamodel (data_of (reading s) k o) ≡ map (entry_of (reading s) k o) (written_features (reading s) o)
  entries-are h =
      let r = reading s in
      let ms = features_data r k o in
      ap (λ (x : Option (ClassNo × Members)). option_map_or (λ k. entries_in s.metamodel k.0 k.1) x []) (known-is h)
      ∙ ap (filter_map (entry_at s.metamodel ms)) (sym (features-are h))
      ∙ entries-read s.metamodel (content_data r k (data_of r k) o) (λ f. is_set r (at_end (node.Object o) f)) (all_features_of r (node.Object o)) (apart h)

  -- the object is read as it was written
  pub object-read : IsPart (reading s) k o
  object-read = let h = has-class s legal o live in record { written = is-written_object; class = is-class h; entries = entries-are h }
