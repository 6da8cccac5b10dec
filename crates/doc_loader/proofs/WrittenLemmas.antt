-- In a document that is read, the part from which an object was read, and the entry from which a content was read.
use Rattle.std.proofs.Common.{◌≡◌, ◌∙◌, ℕ, Bool, true, false, cond, List, [], Option, Some, None, map, refl, sym, ap, subst, arith}
use Rattle.std.specs.Prelude.{not, option_map, slice_get, unwrap_or}
use Rattle.std.specs.List.{AllByRecursion, enumerate_from, list_any}
use Rattle.std.specs.Option.{option_map_or}
use Rattle.std.proofs.lemmas.Bool.{not-true}
use Rattle.std.proofs.lemmas.Option.{none-some, same_Some}
use Rattle.serde_json.specs.Data.{Data, Members}
use Rattle.serde_json.specs.Find.{get_member}
use Rattle.mm_types.specs.Lookups as lookups
use Rattle.mm_types.specs.Resolved.{Metamodel}
use Rattle.mm_types.specs.Same.{is_nil}
use Rattle.mm_types.specs.declared.numbers.ClassNo.{ClassNo}
use Rattle.mm_types.specs.declared.numbers.FeatureNo.{FeatureNo}
use Rattle.mm_types.specs.declared.numbers.ObjectNo.{ObjectNo}
use Rattle.doc_parts.specs.Parts.{Entry, Part, class_and_members, entries, entries_in, entry_at, new_entry}
use Rattle.resource_docs.specs.Causes.{of_content}
use Rattle.resource_docs.specs.Read.{content_read, contents_read, object_read}
use Rattle.resource_docs.specs.Texts.{Base}
use Rattle.resource_docs.specs.declared.doc.Content.{Content}
use Rattle.resource_docs.specs.declared.doc.Doc.{Doc}
use Rattle.resource_docs.specs.declared.doc.DocObject.{DocObject}
use Rattle.doc_loader.proofs.DocLemmas.{IsKnown, known-of}
use Rattle.doc_loader.proofs.PairLemmas.{all-at, all-every, all-filter_map}
use Rattle.doc_loader.proofs.SoundLemmas.{IsThere, all-none, apart-one, at-map, at-numbered, filter-at, map-at}
use Rattle.doc_loader.proofs.WholeLemmas.{HaveOtherNames, NamesAreApart, entries-apart, entry-feature}

---------------------------------------------------------------- entries

plain-entry : (m : Metamodel) (ms : Members) (f : FeatureNo) (e : Entry) → entry_at m ms f ≡ Some e → lookups.is_container m e.feature ≡ false
plain-entry m ms f e h =
    elim (lookups.is_container m f) as (λ b. lookups.is_container m f ≡ b → option_map (new_entry f) (cond b None (get f)) ≡ Some e → lookups.is_container m e.feature ≡ false) [
      | true ↦ λ q at. absurd (none-some e at)
      | false ↦ λ q at. ap (lookups.is_container m) (entry-feature f (get f) e at) ∙ q
    ] refl h
  where
    get : FeatureNo → Option Data
    get g = get_member (lookups.feature_name m g) ms

pub plain-entries : (m : Metamodel) (d : Data) → AllByRecursion (λ e. lookups.is_container m e.feature ≡ false) (entries m d)
plain-entries m d = by (class_and_members m d)
  where
    by : (o : Option (ClassNo × Members)) → AllByRecursion (λ e. lookups.is_container m e.feature ≡ false) (option_map_or (λ k. entries_in m k.0 k.1) o [])
    by None = tt
    by (Some (c, ms)) =
        let fs = unwrap_or (lookups.features m c) [] in
        all-filter_map (λ f. Unit {0}) (λ e. lookups.is_container m e.feature ≡ false) (entry_at m ms) fs (λ f e u is. plain-entry m ms f e is) (all-every (λ f. Unit {0}) fs (λ f. tt))

-- the entries of an object have different names
pub same-entry : (m : Metamodel) → NamesAreApart m → (json : Data) (i j : ℕ) (x y : Entry) → slice_get (entries m json) i ≡ Some x → slice_get (entries m json) j ≡ Some y
    → lookups.feature_name m x.feature ≡ lookups.feature_name m y.feature → x ≡ y
same-entry m names json i j x y p q same =
    let index = apart-one (HaveOtherNames m) (entries m json) i j x y (entries-apart m names json) p q (λ other. other same) (λ other. other (sym same)) in
    same_Some x y (sym p ∙ ap (slice_get (entries m json)) index ∙ q)

---------------------------------------------------------------- objects and contents

-- the entry that a content of an object was read from
pub record IsWritten (m : Metamodel) (b : Base) (ps : List Part) (o : ℕ) (c : Content) : Type 0 where
  pub part : Part
  pub here : slice_get ps o ≡ Some part
  pub index : ℕ
  pub entry : Entry
  pub there : slice_get (entries m part.json) index ≡ Some entry
  pub is : content_read m b ps part.path entry ≡ c
  pub some : is_nil c.values ≡ false

-- a test that fails for each content of each object fails for all contents of the document
pub none-of : (doc : Doc) (holds : ObjectNo → Content → Bool) → of_content holds doc ≡ false → (o : ObjectNo) (c : Content) → IsThere doc o c → holds o c ≡ false
none-of doc holds none o c there =
    let r = at-numbered doc.objects 0 o.0 there.object there.at in
    let n = r.1 in
    let all = all-at (λ (x : ℕ × DocObject). list_any (holds (record { 0 = x.0 })) x.1.contents ≡ false) (enumerate_from 0 doc.objects) o.0 (r.0, there.object) (all-none (λ (x : ℕ × DocObject). list_any (holds (record { 0 = x.0 })) x.1.contents) (enumerate_from 0 doc.objects) none) r.2 in
    let same : r.0 ≡ o.0 = omega (arith, n) in
    subst (λ (x : ℕ). holds (record { 0 = x }) c ≡ false) same (all-at (λ (x : Content). holds (record { 0 = r.0 }) x ≡ false) there.object.contents there.index c (all-none (holds (record { 0 = r.0 })) there.object.contents all) there.in_object)

module _ (m : Metamodel) (b : Base) (ps : List Part) (doc : Doc) (objects_are : doc.objects ≡ map (object_read m b ps) ps) where
  pub object-at : (o : ℕ) (x : DocObject) → slice_get doc.objects o ≡ Some x → (p : Part) × (slice_get ps o ≡ Some p) × (object_read m b ps p ≡ x)
  object-at o x at = map-at (object_read m b ps) ps o x (sym (ap (λ (os : List DocObject). slice_get os o) objects_are) ∙ at)

  pub read-at : (o : ℕ) (p : Part) → slice_get ps o ≡ Some p → slice_get doc.objects o ≡ Some (object_read m b ps p)
  read-at o p at = ap (λ (os : List DocObject). slice_get os o) objects_are ∙ at-map (object_read m b ps) ps o p at

  pub written : (o : ObjectNo) (c : Content) → IsThere doc o c → IsWritten m b ps o.0 c
  written o c there =
      let p = object-at o.0 there.object there.at in
      let in_read : slice_get (contents_read m b ps p.0.path (entries m p.0.json)) there.index ≡ Some c = ap (λ (x : DocObject). slice_get x.contents there.index) p.2 ∙ there.in_object in
      let f = filter-at (λ c. not (is_nil c.values)) (map (content_read m b ps p.0.path) (entries m p.0.json)) there.index c in_read in
      let e = map-at (content_read m b ps p.0.path) (entries m p.0.json) f.0 c f.1 in
      record { part = p.0; here = p.1; index = f.0; entry = e.0; there = e.1; is = e.2; some = not-true (is_nil c.values) f.2 }

  pub known-at : (o : ObjectNo) (c : Content) → IsThere doc o c → (w : IsWritten m b ps o.0 c) → IsKnown m ps w.part.path c.feature c.values
  known-at o c there w =
      subst (λ (x : Content). IsKnown m ps w.part.path x.feature x.values) w.is
      (known-of m b ps w.part.path w.entry (all-at (λ e. lookups.is_container m e.feature ≡ false) (entries m w.part.json) w.index w.entry (plain-entries m w.part.json) w.there)
      (ap (λ (x : Content). is_nil x.values) w.is ∙ w.some))
