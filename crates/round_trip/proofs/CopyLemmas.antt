-- The document of a resource is read as the resource, if no cause of refusal applies.
use Rattle.std.proofs.Common.{◌≡◌, ◌∙◌, ℕ, ◌+◌, Bool, true, false, List, [], ◌∷◌, Option, Some, ap, arith, filter, map, option_map, refl, sym}
use Rattle.std.specs.Prelude.{Contains, filter_map, if◌then◌else◌, not, unwrap_or}
use Rattle.std.specs.List.{enumerate_from}
use Rattle.std.specs.Option.{option_map_or}
use Rattle.serde_json.specs.Data.{Data, array}
use Rattle.serde_json.specs.Find.{as_array}
use Rattle.serde_json.specs.View.{items_of}
use Rattle.mm_types.specs.Ends.{value_in}
use Rattle.mm_types.specs.Resolved.{Metamodel}
use Rattle.mm_types.specs.Same.{is_nil}
use Rattle.mm_types.specs.Shapes.{shape}
use Rattle.mm_types.specs.declared.feature.Feature.{Feature}
use Rattle.mm_types.specs.declared.numbers.FeatureNo.{FeatureNo}
use Rattle.mm_types.specs.declared.numbers.Node.TheVariants as node
use Rattle.mm_types.specs.declared.numbers.ObjectNo.{ObjectNo}
use Rattle.mm_types.specs.declared.numbers.ResourceNo.{ResourceNo}
use Rattle.mm_types.specs.declared.value.Value.{Value}
use Rattle.models.specs.Legal.{IsLegal}
use Rattle.models.specs.Model.{Model, reading, values_at}
use Rattle.models.specs.Reading.{at_end}
use Rattle.containment.specs.Forest.{subtree}
use Rattle.fragment_paths.specs.Finding.{roots}
use Rattle.doc_parts.specs.Parts.{Part, entries, list_of, root_parts, values_of}
use Rattle.doc_parts.proofs.DataLemmas.{list_of-items_of}
use Rattle.doc_writer.specs.Document.{document, value_data}
use Rattle.doc_writer.specs.Written.{objects_in, written_features}
use Rattle.resource_docs.specs.Read.{content_read, contents_read, doc_read, object_read, root_number, values_read}
use Rattle.resource_docs.specs.Texts.{Base, base_of}
use Rattle.resource_docs.specs.Values.{value_of}
use Rattle.resource_docs.specs.declared.doc.Content.{Content}
use Rattle.resource_docs.specs.declared.doc.Doc.{Doc}
use Rattle.resource_docs.specs.declared.doc.DocObject.{DocObject}
use Rattle.round_trip.specs.PartsLaws.{AreParts}
use Rattle.round_trip.specs.Parts.{data_of, entry_of, part_of, path_in}
use Rattle.round_trip.specs.Copied.{content_copied, copied_document, object_copied, renamed_value, root_copied}
use Rattle.round_trip.specs.ValuesLaws.{AreReadAs, parts_of}
use Rattle.round_trip.proofs.EndLemmas.{IsWrittenOf, some-values, written-of}
use Rattle.round_trip.proofs.ValuesListLemmas.{found-among, in-all, in-front, object-at, place-of}
use Rattle.round_trip.proofs.ListLemmas.{all-kept, each-mapped, each-of, filter_map-each, filter_map-mapped, map-each, map-twice, read-each}

---------------------------------------------------------------- values

-- the JSON under a feature has the data of its values, which is one value if the feature is single
written-values : (single : Bool) (v : Value → Data) (vs : List Value) → (single ≡ true → vs ≡ value_in vs 0 ∷ [])
    → (if single then (if single then v (value_in vs 0) else array (items_of (map v vs))) ∷ [] else option_map_or list_of (as_array (if single then v (value_in vs 0) else array (items_of (map v vs)))) []) ≡ map v vs
written-values true v vs one = ap (map v) (sym (one refl))
written-values false v vs one = list_of-items_of (map v vs)

nil-mapped : (g : Value → Value) (vs : List Value) → is_nil (map g vs) ≡ is_nil vs
nil-mapped g [] = refl
nil-mapped g (v ∷ vs) = refl

module _ (s : Model) (legal : IsLegal s) (k : ResourceNo) (uri : List ℕ) (found : AreParts (reading s) k) (read : AreReadAs (reading s) k uri) where
  abbrev m : Metamodel
  m = s.metamodel

  abbrev os : List ObjectNo
  os = objects_in (reading s) k

  abbrev ps : List Part
  ps = parts_of (reading s) k

  abbrev b : Base
  b = base_of uri

  pub values-written : (o : ObjectNo) (f : FeatureNo) → IsWrittenOf s o f → values_of m (entry_of (reading s) k o f) ≡ map (value_data (reading s) k (data_of (reading s) k) f) (values_at s (at_end (node.Object o) f))
  values-written o f w =
      written-values (shape m f).is_single (value_data (reading s) k (data_of (reading s) k) f) (values_at s (at_end (node.Object o) f)) (some-values s legal o f w.set).one

  values-copied : (o : ObjectNo) (f : FeatureNo) → Contains os o → Contains (written_features (reading s) o) f
      → values_read m b ps (path_in (reading s) o) (entry_of (reading s) k o f) ≡ map (renamed_value (reading s) os) (values_at s (at_end (node.Object o) f))
  values-copied o f inside there =
      let w = written-of s legal o f there in
      let path = path_in (reading s) o in
      ap (λ (x : Option Feature). option_map_or (λ g. filter_map (value_of m b ps path f g.kind) (enumerate_from 0 (values_of m (entry_of (reading s) k o f)))) x []) w.there
      ∙ ap (λ ds. filter_map (value_of m b ps path f w.feature.kind) (enumerate_from 0 ds)) (values-written o f w)
      ∙ read-each (value_of m b ps path f w.feature.kind) (value_data (reading s) k (data_of (reading s) k) f) (renamed_value (reading s) os) 0 (values_at s (at_end (node.Object o) f))
      (λ i v at. ap (λ (j : ℕ). value_of m b ps path f w.feature.kind (j, value_data (reading s) k (data_of (reading s) k) f v)) (let e : 0 + i ≡ i = omega arith in e) ∙ (read.values o f w.feature i v inside there w.there at).value)

  content-copied : (o : ObjectNo) (f : FeatureNo) → Contains os o → Contains (written_features (reading s) o) f
      → content_read m b ps (path_in (reading s) o) (entry_of (reading s) k o f) ≡ content_copied (reading s) os o f
  content-copied o f inside there = λ i. record { feature = f; values = values-copied o f inside there i }

  ---------------------------------------------------------------- objects

  contents-copied : (o : ObjectNo) → Contains os o → contents_read m b ps (path_in (reading s) o) (entries m (data_of (reading s) k o)) ≡ map (content_copied (reading s) os o) (written_features (reading s) o)
  contents-copied o inside =
      let r = reading s in
      let fs = written_features r o in
      let path = path_in r o in
      let kept = λ (c : Content). not (is_nil c.values) in
      ap (λ es. filter kept (map (content_read m b ps path) es)) (found.each o inside).entries
      ∙ ap (filter kept) (map-twice (entry_of r k o) (content_read m b ps path) fs
      ∙ map-each (λ f. content_read m b ps path (entry_of r k o f)) (content_copied r os o) fs (each-of _ fs (λ f there. content-copied o f inside there)))
      ∙ all-kept kept (map (content_copied r os o) fs) (each-mapped (content_copied r os o) (λ c. kept c ≡ true) fs (each-of _ fs (λ f there.
      ap not (nil-mapped (renamed_value r os) (values_at s (at_end (node.Object o) f)) ∙ (some-values s legal o f (written-of s legal o f there).set).some))))

  object-copied : (o : ObjectNo) → Contains os o → object_read m b ps (part_of (reading s) k o) ≡ object_copied (reading s) os o
  object-copied o inside = λ i. record { class = unwrap_or ((found.each o inside).class i) (record { 0 = 0 }); contents = contents-copied o inside i }

  pub root-inside : (o : ObjectNo) → Contains (roots (reading s) k) o → Contains os o
  root-inside o there = let at = place-of (roots (reading s) k) o there in in-all (subtree (reading s)) (roots (reading s) k) at.0 o o at.1 (in-front o _)

  root-copied : (o : ObjectNo) → Contains (roots (reading s) k) o → root_number ps (path_in (reading s) o) ≡ Some (root_copied os o)
  root-copied o there =
      let inside = root-inside o there in
      let place = object-at os o (found-among os o inside) in
      ap (option_map (λ (n : ℕ). record { 0 = n })) ((read.objects o inside).number ∙ place.found)
      ∙ ap (λ (x : Option ℕ). Some (record { 0 = unwrap_or x 0 })) (sym place.found)

  new-doc : List DocObject → List ObjectNo → Doc
  new-doc objects numbers = record { objects = objects; roots = numbers }

  pub doc-copied_document : doc_read m b (document (reading s) k) ≡ copied_document (reading s) k
  unfolding doc_read copied_document new-doc
  doc-copied_document =
      let r = reading s in
      let d = document r k in
      let rs = roots r k in
      ap (λ qs. new-doc (map (object_read m b qs) qs) (filter_map (λ p. root_number qs p.path) (root_parts d))) found.parts
      ∙ ap (λ qs. new-doc (map (object_read m b ps) ps) (filter_map (λ p. root_number ps p.path) qs)) found.roots
      ∙ ap (λ xs. new-doc xs (filter_map (λ p. root_number ps p.path) (map (part_of r k) rs)))
      (map-twice (part_of r k) (object_read m b ps) os ∙ map-each (λ o. object_read m b ps (part_of r k o)) (object_copied r os) os (each-of _ os object-copied))
      ∙ ap (new-doc (map (object_copied r os) os))
      (filter_map-mapped (part_of r k) (λ p. root_number ps p.path) rs ∙ filter_map-each (λ o. root_number ps (path_in r o)) (root_copied os) rs (each-of _ rs root-copied))
