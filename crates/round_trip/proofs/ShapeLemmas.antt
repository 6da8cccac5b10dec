-- The document of a resource has the right shape: its objects have classes of the metamodel, each key is a feature of its object's class,
-- and the values under it are of the feature's type.
use Rattle.std.proofs.Common.{◌≡◌, ◌∙◌, ℕ, Bool, true, false, List, [], ◌∷◌, Option, Some, None, Ordering, Less, Equal, Greater, ap, map, option_map, refl, sym, subst}
use Rattle.std.specs.Prelude.{◌&&◌, ◌||◌, ◌==◌, Contains, if◌then◌else◌, is_some, not}
use Rattle.std.specs.Cmp.Lexicographic.{slice_cmp}
use Rattle.std.specs.List.{AllByRecursion, list_all, list_any}
use Rattle.std.specs.Option.{option_map_or}
use Rattle.std.specs.Ordering.{match_ordering, nat_cmp}
use Rattle.std.proofs.lemmas.Bool.{and_parts}
use Rattle.std.proofs.lemmas.Option.{none-some, same_Some}
use Rattle.serde_json.specs.Data.{Data, Members, no_members, member, array, put}
use Rattle.serde_json.specs.Find.{as_array, as_object}
use Rattle.serde_json.specs.View.{items_of}
use Rattle.json_fields.specs.Fields.{◌>>=◌, keys_of}
use Rattle.mm_types.specs.Conditions.{◌else_by◌, ◌where_so◌}
use Rattle.mm_types.specs.Ends.{value_in}
use Rattle.mm_types.specs.Lookups as lookups
use Rattle.mm_types.specs.Resolved.{Metamodel}
use Rattle.mm_types.specs.Shapes.{shape}
use Rattle.mm_types.specs.declared.document_fault.DocFault.TheVariants as cause
use Rattle.mm_types.specs.declared.end.End.{End}
use Rattle.mm_types.specs.declared.feature.Feature.{Feature}
use Rattle.mm_types.specs.declared.numbers.ClassNo.{ClassNo}
use Rattle.mm_types.specs.declared.numbers.FeatureNo.{FeatureNo}
use Rattle.mm_types.specs.declared.numbers.Node.TheVariants as node
use Rattle.mm_types.specs.declared.numbers.ObjectNo.{ObjectNo}
use Rattle.mm_types.specs.declared.numbers.ResourceNo.{ResourceNo}
use Rattle.mm_values.specs.Values.{ObjectState, object_at}
use Rattle.links.specs.Holders.{holder}
use Rattle.models.specs.Legal.{IsLegal, IsLegalObject}
use Rattle.models.specs.Model.{Model, reading, values_at}
use Rattle.models.specs.Reading.{at_end, is_live, objects_of}
use Rattle.models.proofs.PlaceLemmas.{legal-at}
use Rattle.containment.specs.Above.{resource_of}
use Rattle.fragment_paths.proofs.HeldLemmas.{held, held-object}
use Rattle.mm_meta.proofs.OwnNameLemmas.{own-name}
use Rattle.fragment_paths.proofs.UpLemmas.{resource-none}
use Rattle.doc_parts.specs.Contents.{is_content, is_value}
use Rattle.doc_parts.specs.Faults.{has_no_class, has_other_key, is_misshapen, is_readable, of_entry, of_written}
use Rattle.doc_parts.specs.Layout.{Written, new_written, top, written_object}
use Rattle.doc_parts.specs.Parts.{Entry, Part, entries, level_of, parts, values_of}
use Rattle.doc_parts.proofs.DataLemmas.{list_all-map, list_any-map}
use Rattle.doc_writer.specs.Document.{class_name, document, feature_member, members_with, value_data}
use Rattle.doc_writer.specs.Written.{objects_in, written_features}
use Rattle.doc_writer.proofs.RootLemmas.{all-live}
use Rattle.resource_docs.specs.Causes.{has_other_format, shape_cause}
use Rattle.round_trip.specs.PartsLaws.{AreParts}
use Rattle.round_trip.specs.Parts.{data_of, entry_of, features_data, part_of}
use Rattle.round_trip.specs.ValuesLaws.{AreReadAs}
use Rattle.round_trip.proofs.CopyLemmas.{values-written}
use Rattle.round_trip.proofs.EndLemmas.{written-of}
use Rattle.round_trip.proofs.ValuesListLemmas.{stands}
use Rattle.round_trip.proofs.ListLemmas.{all-pass, all-passed, any-none, each-at, each-mapped, each-of, of-each}

---------------------------------------------------------------- keys

put-keys : (p : List ℕ → Bool) (k : List ℕ) (d : Data) (ms : Members) → p k ≡ true → list_all p (keys_of ms) ≡ true → list_all p (keys_of (put k d ms)) ≡ true
put-keys p k d no_members here all = ap (λ b. b && true) here
put-keys p k d (member l e ms) here all =
    let both = and_parts (p l) (list_all p (keys_of ms)) all in
    by (slice_cmp nat_cmp k l) (ap (λ b. b && list_all p (keys_of (put k d ms))) both.0 ∙ put-keys p k d ms here both.1)
  where
    by : (o : Ordering) → list_all p (l ∷ keys_of (put k d ms)) ≡ true → list_all p (keys_of (match_ordering o (member k d (member l e ms)) (member l d ms) (member l e (put k d ms)))) ≡ true
    by Less later = ap (λ b. b && list_all p (l ∷ keys_of ms)) here ∙ all
    by Equal later = all
    by Greater later = later

-- the keys of members are those that were put
member-keys : (p : List ℕ → Bool) (xs : List (List ℕ × Data)) (ms : Members) → list_all p (keys_of ms) ≡ true → AllByRecursion (λ (x : List ℕ × Data). p x.0 ≡ true) xs → list_all p (keys_of (members_with ms xs)) ≡ true
member-keys p [] ms all each = all
member-keys p (x ∷ xs) ms all each = member-keys p xs (put x.0 x.1 ms) (put-keys p x.0 x.1 ms each.0 all) each.1

---------------------------------------------------------------- classes

concrete-class : (s : Model) (x : Option ObjectState) (c : ClassNo) → IsLegalObject s.metamodel x → option_map (λ (y : ObjectState). y.class) x ≡ Some c → lookups.is_concrete s.metamodel c ≡ true
concrete-class s None c legal is = absurd (none-some c is)
concrete-class s (Some x) c legal is = subst (λ (d : ClassNo). lookups.is_concrete s.metamodel d ≡ true) (same_Some x.class c is) legal.0

module _ (s : Model) (legal : IsLegal s) where
  concrete-of : (o : ObjectNo) (c : ClassNo) → (reading s).class o ≡ Some c → lookups.is_concrete s.metamodel c ≡ true
  concrete-of o c is = concrete-class s (object_at s.values.objects o) c (legal-at (IsLegalObject s.metamodel) s.values.objects o.0 tt legal.objects) is

  some-class : (o : ObjectNo) → is_live (reading s) o ≡ true → (c : ClassNo) × ((reading s).class o ≡ Some c)
  some-class o = by ((reading s).class o) refl
    where
      by : (x : Option ClassNo) → (reading s).class o ≡ x → is_some x ≡ true → (c : ClassNo) × ((reading s).class o ≡ Some c)
      by None is h = cc
      by (Some c) is h = (c, is)

  held-live : (o : ObjectNo) (e : End) → holder s.links (node.Object o) ≡ Some e → is_live (reading s) o ≡ true
  held-live o e h =
      let at = held s legal o e h in
      of-each (λ x. is_live (reading s) x ≡ true) (objects_of (values_at s e)) o (all-passed (is_live (reading s)) (objects_of (values_at s e)) (all-live s e legal at.reference))
      (stands (objects_of (values_at s e)) _ o (held-object s legal o e at))

  -- an object in a resource lives
  pub live-inside : (o : ObjectNo) (k : ResourceNo) → resource_of (reading s).above o ≡ Some k → is_live (reading s) o ≡ true
  live-inside o k inside = by (holder s.links (node.Object o)) refl
    where
      by : (x : Option End) → holder s.links (node.Object o) ≡ x → is_live (reading s) o ≡ true
      by None none = absurd (none-some k (sym (resource-none s legal o none) ∙ inside))
      by (Some e) h = held-live o e h

---------------------------------------------------------------- what is written

-- a list is written as an array
list-array : (single : Bool) (x : Data) (ds : List Data) → (single || is_some (as_array (if single then x else array (items_of ds)))) ≡ true
list-array true x ds = refl
list-array false x ds = refl

module _ (s : Model) (legal : IsLegal s) (k : ResourceNo) (uri : List ℕ) (found : AreParts (reading s) k) (read : AreReadAs (reading s) k uri) where
  abbrev m : Metamodel
  m = s.metamodel

  abbrev d : Data
  d = document (reading s) k

  abbrev os : List ObjectNo
  os = objects_in (reading s) k

  pub none-part : (holds : Part → Bool) → ((o : ObjectNo) → Contains os o → holds (part_of (reading s) k o) ≡ false) → list_any holds (parts m d) ≡ false
  none-part holds none =
      ap (list_any holds) found.parts ∙ list_any-map (part_of (reading s) k) holds os ∙ any-none (λ o. holds (part_of (reading s) k o)) os (each-of _ os none)

  pub none-written : (holds : Written → Bool) → ((o : ObjectNo) → Contains os o → holds (new_written (class_name (reading s) o) (features_data (reading s) k o)) ≡ false) → of_written holds (parts m d) ≡ false
  none-written holds none = none-part (λ p. option_map_or holds (written_object p.json) false) (λ o inside. ap (λ w. option_map_or holds w false) (found.each o inside).written ∙ none o inside)

  pub none-entry : (holds : Entry → Bool) → ((o : ObjectNo) (f : FeatureNo) → Contains os o → Contains (written_features (reading s) o) f → holds (entry_of (reading s) k o f) ≡ false)
      → of_entry m holds (parts m d) ≡ false
  none-entry holds none =
      none-part (λ p. list_any holds (entries m p.json)) (λ o inside.
      let fs = written_features (reading s) o in
      ap (list_any holds) (found.each o inside).entries
      ∙ list_any-map (entry_of (reading s) k o) holds fs
      ∙ any-none (λ f. holds (entry_of (reading s) k o f)) fs (each-of _ fs (λ f there. none o f inside there)))

  ---------------------------------------------------------------- cause by cause

  layout : (not (is_some (top d)) || list_any is_misshapen (parts m d)) ≡ false
  layout =
      ap (λ t. not (is_some t) || list_any is_misshapen (parts m d)) found.top
      ∙ none-part is_misshapen (λ o inside. ap (λ w. not (is_some w) && (level_of (part_of (reading s) k o) == 1 || is_some (as_object (data_of (reading s) k o)))) (found.each o inside).written)

  format : option_map_or has_other_format (top d) false ≡ false
  format = ap (λ t. option_map_or has_other_format t false) found.top

  named : (o : ObjectNo) → Contains os o → lookups.class_by_name m (class_name (reading s) o) ≡ (reading s).class o
  named o inside = sym (ap (λ x. x >>= (λ w. lookups.class_by_name m w.class)) (found.each o inside).written) ∙ (found.each o inside).class

  pub class-of : (o : ObjectNo) → Contains os o → (c : ClassNo) × ((reading s).class o ≡ Some c)
  class-of o inside = some-class s legal o (live-inside s legal o k (read.objects o inside).inside)

  classes : of_written (has_no_class m) (parts m d) ≡ false
  classes =
      none-written (has_no_class m) (λ o inside.
      let c = class-of o inside in
      ap (λ x. not (option_map_or (lookups.is_concrete m) x false)) (named o inside ∙ c.1) ∙ ap not (concrete-of s legal o c.0 c.1))

  readable : (o : ObjectNo) (c : ClassNo) (f : FeatureNo) → (reading s).class o ≡ Some c → Contains (written_features (reading s) o) f → is_readable m c (lookups.feature_name m f) ≡ true
  readable o c f is there =
      let w = written-of s legal o f there in
      let same : w.class ≡ c = same_Some w.class c (sym w.is ∙ is) in
      ap (λ x. option_map_or (λ g. not (lookups.is_container m g)) x false) (own-name m legal.metamodel c f (subst (λ (x : ClassNo). lookups.has_feature m x f ≡ true) same w.has)) ∙ ap not w.plain

  keys : of_written (has_other_key m) (parts m d) ≡ false
  keys =
      none-written (has_other_key m) (λ o inside.
      let c = class-of o inside in
      let fs = written_features (reading s) o in
      let one = feature_member (reading s) k (data_of (reading s) k) o in
      ap (λ x. option_map_or (λ y. not (list_all (is_readable m y) (keys_of (features_data (reading s) k o)))) x false) (named o inside ∙ c.1)
      ∙ ap not (member-keys (is_readable m c.0) (map one fs) no_members refl (each-mapped one (λ x. is_readable m c.0 x.0 ≡ true) fs (each-of _ fs (λ f there. readable o c.0 f c.1 there)))))

  typed : (o : ObjectNo) (f : FeatureNo) → Contains os o → Contains (written_features (reading s) o) f → is_content m (entry_of (reading s) k o f) ≡ true
  typed o f inside there =
      let r = reading s in
      let w = written-of s legal o f there in
      let single = (shape m f).is_single in
      let vs = values_at s (at_end (node.Object o) f) in
      let made = value_data r k (data_of r k) f in
      let good = is_value m single w.feature.kind in
      ap (λ b. b && option_map_or (λ g. list_all (is_value m single g.kind) (values_of m (entry_of r k o f))) (lookups.feature m f) false) (list-array single (made (value_in vs 0)) (map made vs))
      ∙ ap (λ x. option_map_or (λ (g : Feature). list_all (is_value m single g.kind) (values_of m (entry_of r k o f))) x false) w.there
      ∙ ap (list_all good) (values-written s legal k uri found read o f w)
      ∙ list_all-map made good vs
      ∙ all-pass (λ v. good (made v)) vs (each-at _ vs (λ i v at. (read.values o f w.feature i v inside there w.there at).good))

  values : of_entry m (λ e. not (is_content m e)) (parts m d) ≡ false
  values = none-entry (λ e. not (is_content m e)) (λ o f inside there. ap not (typed o f inside there))

  pub no-shape_cause : shape_cause m (top d) (parts m d) ≡ None
  no-shape_cause = λ i.
      cause.Layout where_so layout i else_by
      cause.Format where_so format i else_by
      cause.Class where_so classes i else_by
      cause.Feature where_so keys i else_by
      cause.Value where_so values i
