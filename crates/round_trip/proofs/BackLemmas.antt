-- No cause of refusal applies to the document of a resource, so it is read as that resource.
use Rattle.std.proofs.Common.{◌≡◌, ◌∙◌, ◌≤◌, ℕ, suc, true, false, cond, List, [], ◌∷◌, Option, Some, None, ap, arith, length, map, nat_le, nat_lt, refl, sym}
use Rattle.std.specs.Prelude.{◌&&◌, ◌||◌, Contains, Ok, is_some, not}
use Rattle.std.specs.List.{list_any}
use Rattle.std.specs.Option.{option_map_or}
use Rattle.std.proofs.lemmas.Bool.Decides.{nat_tests}
use Rattle.std.proofs.lemmas.List.{length-map}
use Rattle.std.specs.Str.{is_utf8}
use Rattle.std.proofs.lemmas.Bool.{false_from_ne_true}
use Rattle.serde_json.specs.Data.{Data}
use Rattle.serde_json.specs.Read.{read}
use Rattle.mm_types.specs.Conditions.{◌else_by◌, ◌where_so◌}
use Rattle.mm_types.specs.Resolved.{Metamodel}
use Rattle.mm_types.specs.Shapes.{contents_shape, is_bounded, shape}
use Rattle.mm_types.specs.declared.document_fault.DocFault.TheVariants as cause
use Rattle.mm_types.specs.declared.feature.Feature.{Feature}
use Rattle.mm_types.specs.declared.feature.Kind.{Kind}
use Rattle.mm_types.specs.declared.feature.Kind.TheVariants.{Attribute, Reference}
use Rattle.mm_types.specs.declared.numbers.FeatureNo.{FeatureNo}
use Rattle.mm_types.specs.declared.numbers.Node.TheVariants as node
use Rattle.mm_types.specs.declared.numbers.ObjectNo.{ObjectNo}
use Rattle.mm_types.specs.declared.numbers.ResourceNo.{ResourceNo}
use Rattle.mm_types.specs.declared.value.Value.{Value}
use Rattle.mm_types.specs.declared.value.Value.TheVariants as value
use Rattle.links.specs.LegalSets as sets
use Rattle.models.specs.Legal.{IsLegal}
use Rattle.models.specs.Model.{Model, reading, values_at}
use Rattle.models.specs.Reading.{at_end, objects_of, roots_end}
use Rattle.models.specs.Steady.{HasSteadyTexts}
use Rattle.models.proofs.PlaceLemmas.{values-few}
use Rattle.fragment_paths.specs.Finding.{roots}
use Rattle.mm_types.specs.SameValues.{same_value-true}
use Rattle.mm_types.specs.Same.{same_value}
use Rattle.web_uris.specs.declared.path.Path.{Path}
use Rattle.doc_parts.specs.Faults.{is_deep, is_long, of_entry}
use Rattle.doc_parts.specs.Layout.{top}
use Rattle.doc_parts.specs.Parts.{Part, parts, values_of}
use Rattle.doc_parts.proofs.DataLemmas.{list_any-map}
use Rattle.doc_writer.specs.Document.{document, value_data}
use Rattle.doc_writer.specs.Saved.{IsReadAs, is_too_deep}
use Rattle.doc_writer.specs.Written.{level, objects_in}
use Rattle.resource_docs.specs.Causes.{cause_of, has_cross, has_first_format, has_many_roots, has_repeat, of_content, reads, reads_bytes, reads_if, repeats_value, sense_cause, shape_cause, unless_faulty}
use Rattle.resource_docs.specs.Read.{doc_read}
use Rattle.resource_docs.specs.Texts.{Base, base_of}
use Rattle.resource_docs.specs.Values.{has_lost, is_lost, value_of}
use Rattle.resource_docs.specs.declared.doc.Doc.{Doc}
use Rattle.round_trip.specs.PartsLaws.{AreParts}
use Rattle.round_trip.specs.Parts.{data_of, entry_of, part_of, path_in}
use Rattle.round_trip.specs.TextsLaws.{LeadsBack}
use Rattle.round_trip.specs.Copied.{copied_document, renamed_value}
use Rattle.round_trip.specs.ValuesLaws.{AreReadAs, parts_of}
use Rattle.round_trip.specs.Readable.{IsReadable}
use Rattle.round_trip.proofs.DocumentLemmas.{parts-saved}
use Rattle.round_trip.proofs.LeadsLemmas.{leads-back}
use Rattle.round_trip.proofs.ReadAsLemmas.{all-read}
use Rattle.round_trip.proofs.CopyLemmas.{doc-copied_document, values-written}
use Rattle.round_trip.proofs.DepthLemmas.{document-depth}
use Rattle.round_trip.proofs.EndLemmas.{apart-values, some-values, written-of}
use Rattle.round_trip.proofs.ValuesListLemmas.{none-passes, stands}
use Rattle.round_trip.proofs.ListLemmas.{any-none, each-at}
use Rattle.round_trip.proofs.NamedLemmas.{allowed, names-apart}
use Rattle.round_trip.proofs.ShapeLemmas.{no-shape_cause, none-entry, none-part}
use Rattle.round_trip.proofs.SideLemmas.{none-content, none-sided}

---------------------------------------------------------------- lists

-- a list that has no value at two indexes repeats none
no-repeat : (vs : List Value) → sets.IsDistinct vs → repeats_value vs ≡ false
no-repeat [] d = refl
no-repeat (v ∷ vs) d =
    ap (λ b. b || repeats_value vs) (any-none (same_value v) vs (each-at _ vs (λ i w at. false_from_ne_true (same_value v w) (λ same.
    let again = d 0 (suc i) v refl (at ∙ ap Some (sym (same_value-true v w same))) in
    absurd (omega (arith, again))))))
    ∙ no-repeat vs (λ i j w a b. (let same = d (suc i) (suc j) w a b in omega (arith, same)))

few-objects : (vs : List Value) → length (objects_of vs) ≤ length vs
few-objects [] = omega arith
few-objects (value.Object o ∷ vs) = let few = few-objects vs in omega (arith, few)
few-objects (v ∷ vs) = let few = few-objects vs in omega (arith, few)

-- a value that is read is not lost
not-lost : (m : Metamodel) (b : Base) (ps : List Part) (path : Path) (f : FeatureNo) (k : Kind) (i : ℕ) (d : Data) (v : Value) → value_of m b ps path f k (i, d) ≡ Some v → is_lost m b ps k d ≡ false
not-lost m b ps path f (Attribute t unique unsettable default) i d v is = refl
not-lost m b ps path f (Reference target true opposite) i d v is = refl
not-lost m b ps path f (Reference target false opposite) i d v is = ap (λ x. not (is_some x)) is

module _ (s : Model) (legal : IsLegal s) (k : ResourceNo) (uri : List ℕ) (found : AreParts (reading s) k) (leads : LeadsBack (reading s) k uri) (fine : IsReadable (reading s) k uri) (read : AreReadAs (reading s) k uri) where
  abbrev m : Metamodel
  m = s.metamodel

  abbrev b : Base
  b = base_of uri

  abbrev d : Data
  d = document (reading s) k

  abbrev doc : Doc
  doc = copied_document (reading s) k

  abbrev ps : List Part
  ps = parts_of (reading s) k

  lost : of_entry m (has_lost m b (parts m d)) (parts m d) ≡ false
  lost =
      ap (λ qs. of_entry m (has_lost m b qs) (parts m d)) found.parts
      ∙ none-entry s legal k uri found read (has_lost m b ps) (λ o f inside there.
      let r = reading s in
      let w = written-of s legal o f there in
      let vs = values_at s (at_end (node.Object o) f) in
      let made = value_data r k (data_of r k) f in
      ap (λ (x : Option Feature). option_map_or (λ (g : Feature). list_any (is_lost m b ps g.kind) (values_of m (entry_of r k o f))) x false) w.there
      ∙ ap (list_any (is_lost m b ps w.feature.kind)) (values-written s legal k uri found read o f w)
      ∙ list_any-map made (is_lost m b ps w.feature.kind) vs
      ∙ any-none (λ v. is_lost m b ps w.feature.kind (made v)) vs (each-at _ vs (λ i v at. not-lost m b ps (path_in r o) f w.feature.kind i (made v) (renamed_value r (objects_in r k) v) (read.values o f w.feature i v inside there w.there at).value)))

  repeated : of_content (λ o c. has_repeat m c) doc ≡ false
  repeated =
      none-content (reading s) k (λ o c. has_repeat m c) (λ n o f here there.
      let vs = values_at s (at_end (node.Object o) f) in
      let named = map (renamed_value (reading s) (objects_in (reading s) k)) vs in
      elim (shape m f).is_unique as (λ u. (shape m f).is_unique ≡ u → u && repeats_value named ≡ false) [
        | true ↦ λ unique. no-repeat named (names-apart s legal k uri leads fine read o f (stands (objects_in (reading s) k) n o here) there (apart-values s legal o f unique))
        | false ↦ λ _. refl
      ] refl)

  long : has_many_roots m d || of_entry m (is_long m) (parts m d) ≡ false
  long =
      ap (λ x. not (is_bounded (contents_shape m) (length x)) || of_entry m (is_long m) (parts m d)) found.roots
      ∙ ap (λ x. not x || of_entry m (is_long m) (parts m d)) few-roots
      ∙ none-entry s legal k uri found read (is_long m) (λ o f inside there.
      let w = written-of s legal o f there in
      let vs = values_at s (at_end (node.Object o) f) in
      let made = value_data (reading s) k (data_of (reading s) k) f in
      ap (λ ds. not (is_bounded (shape m f) (length ds))) (values-written s legal k uri found read o f w)
      ∙ ap (λ n. not (is_bounded (shape m f) n)) (length-map vs made)
      ∙ ap not (some-values s legal o f w.set).few)
    where
      few-roots : is_bounded (contents_shape m) (length (map (part_of (reading s) k) (roots (reading s) k))) ≡ true
      few-roots =
          let same = length-map (roots (reading s) k) (part_of (reading s) k) in
          let some = few-objects (values_at s (roots_end (reading s) k)) in
          let few = values-few s (roots_end (reading s) k) legal in
          let low : length (map (part_of (reading s) k) (roots (reading s) k)) ≤ 1000000 = omega (arith, same, some, few) in
          bounded (length (map (part_of (reading s) k) (roots (reading s) k))) low
        where
          bounded : (n : ℕ) → n ≤ 1000000 → is_bounded (contents_shape m) n ≡ true
          bounded n low = ap (λ x. x && true) (let x : nat_le n 1000000 ≡ true = grind (arith, nat_tests) in x)

  deep : list_any is_deep (parts m d) ≡ false
  deep =
      none-part s legal k uri found read is_deep (λ o inside.
      ap (nat_lt 40) (read.objects o inside).level
      ∙ none-passes (is_too_deep (reading s)) (objects_in (reading s) k) o (allowed (reading s) k fine.allowed).none_deep inside)

  -- a saved document is no document of the first format
  newer : option_map_or has_first_format (top d) false ≡ false
  newer = ap (λ t. option_map_or has_first_format t false) found.top

  no-sense_cause : sense_cause m b d (parts m d) doc ≡ None
  no-sense_cause = λ i.
      cause.Reference where_so lost i else_by
      cause.Duplicate where_so repeated i else_by
      cause.Bound where_so long i else_by
      cause.OneSided where_so none-sided s legal k uri leads fine read i else_by
      cause.Cross where_so (newer i && of_content (λ o c. has_cross m c) doc) else_by
      cause.Depth where_so deep i

  no-cause : cause_of m b d ≡ None
  unfolding cause_of
  no-cause =
      ap (λ x. shape_cause m (top d) (parts m d) else_by sense_cause m b d (parts m d) x) (doc-copied_document s legal k uri found read)
      ∙ ap (λ x. x else_by sense_cause m b d (parts m d) doc) (no-shape_cause s legal k uri found read)
      ∙ no-sense_cause

  pub reads-back : reads m b d ≡ Ok doc
  reads-back = ap (λ x. unless_faulty x (doc_read m b d)) no-cause ∙ ap Ok (doc-copied_document s legal k uri found read)

---------------------------------------------------------------- the law

module _ (s : Model) (legal : IsLegal s) (steady : HasSteadyTexts s) (k : ResourceNo) (uri : List ℕ) (fine : IsReadable (reading s) k uri) where
  abbrev parts-of : AreParts (reading s) k
  parts-of = parts-saved s legal k

  abbrev leads-of : LeadsBack (reading s) k uri
  leads-of = leads-back s legal steady k uri fine.there

  abbrev values-of : AreReadAs (reading s) k uri
  values-of = all-read s legal steady k uri parts-of leads-of fine

  pub value-back : reads s.metamodel (base_of uri) (document (reading s) k) ≡ Ok (copied_document (reading s) k)
  value-back = reads-back s legal k uri parts-of leads-of fine values-of

  shallow : (o : ObjectNo) → Contains (objects_in (reading s) k) o → level (reading s) o ≤ 40
  shallow o inside =
      let deep = none-passes (is_too_deep (reading s)) (objects_in (reading s) k) o (allowed (reading s) k fine.allowed).none_deep inside in
      low (level (reading s) o) deep
    where
      low : (n : ℕ) → nat_lt 40 n ≡ false → n ≤ 40
      low n h = grind (arith, nat_tests)

  pub text-back : (text : List ℕ) → IsReadAs (reading s) k text → is_utf8 text ≡ true → reads_bytes s.metamodel uri text ≡ Ok (copied_document (reading s) k)
  unfolding reads_bytes
  text-back text reads utf8 =
      ap (λ b. reads_if s.metamodel (base_of uri) (cond b (read text) None)) utf8
      ∙ ap (reads_if s.metamodel (base_of uri)) (reads (document-depth s legal k uri parts-of values-of shallow))
      ∙ value-back
