-- The parts that are read inside of an object are the objects that it contains, each at its own path.
use Rattle.std.proofs.Common.{◌≡◌, ◌∙◌, ◌+◌, ◌++◌, ◌&&◌, ℕ, suc, Bool, true, false, cond, not, List, [], ◌∷◌, Option, Some, None, filter, flat_map, map, option_map, slice_get, arith, refl, sym, ap, if◌then◌else◌}
use Rattle.std.specs.Prelude.{option_and_then, unwrap_or}
use Rattle.std.specs.List.{AllByRecursion, enumerate_from, list_all}
use Rattle.std.specs.Option.{option_map_or}
use Rattle.std.proofs.lemmas.Bool.{true≢false}
use Rattle.std.proofs.lemmas.List.{map-append}
use Rattle.std.proofs.lemmas.Option.{none-some, same_Some}
use Rattle.std.proofs.Math.Bool.{and-true}
use Rattle.serde_json.specs.Data.{Data, array}
use Rattle.serde_json.specs.Find.{as_array}
use Rattle.serde_json.specs.View.{items_of}
use Rattle.mm_types.specs.Ends.{value_in}
use Rattle.mm_types.specs.Lookups as lookups
use Rattle.mm_types.specs.Same.{is_nil}
use Rattle.mm_types.specs.Shapes.{is_containment, shape}
use Rattle.mm_types.specs.declared.end.End.{End}
use Rattle.mm_types.specs.declared.numbers.FeatureNo.{FeatureNo}
use Rattle.mm_types.specs.declared.numbers.Node.TheVariants as node
use Rattle.mm_types.specs.declared.numbers.ObjectNo.{ObjectNo}
use Rattle.mm_types.specs.declared.numbers.ResourceNo.{ResourceNo}
use Rattle.mm_types.specs.declared.value.Value.{Value}
use Rattle.mm_types.specs.declared.value.Value.TheVariants as value
use Rattle.models.specs.Legal.{IsLegal}
use Rattle.models.specs.Model.{Model, reading, values_at}
use Rattle.models.specs.Reading.{all_features_of, at_end, is_live, is_set, object_of, objects_of}
use Rattle.models.proofs.EndLemmas.{values-single}
use Rattle.models.proofs.PlaceLemmas.{position-target}
use Rattle.mm_meta.proofs.FeatureListLemmas.{all-append}
use Rattle.containment.proofs.PartLemmas.{all-objects, contains-itself, contains-reference, holder-at, values-linked}
use Rattle.containment.specs.Forest as forest
use Rattle.web_uris.specs.Paths.{new_path, new_step, with_step}
use Rattle.web_uris.specs.declared.path.Path.{Path}
use Rattle.fragment_paths.proofs.ObjectLemmas as ends
use Rattle.fragment_paths.proofs.ObjectLemmas.{objects-get}
use Rattle.fragment_paths.proofs.UpLemmas.{path-part}
use Rattle.fragment_paths.specs.Fragments.{path_of, position_in, step_into}
use Rattle.doc_parts.proofs.DataLemmas.{list_of-items_of}
use Rattle.doc_parts.specs.Parts.{Part, entries, list_of, parts_in, step_to, values_of}
use Rattle.doc_writer.specs.Document.{value_data}
use Rattle.doc_writer.specs.Written.{is_written}
use Rattle.round_trip.specs.Parts.{data_of, entry_of, part_of, path_in}
use Rattle.round_trip.proofs.ContainLemmas.{one-value, plain-containment, reference-plain, set-by, values-are}
use Rattle.round_trip.proofs.LevelLemmas.{live-under}
use Rattle.round_trip.proofs.ObjectLemmas.{object-read}

---------------------------------------------------------------- lists

-- numbered data are the parts of the objects for which they were written
pub numbered : (at : ℕ → Data → Part) (part : ObjectNo → Part) (data_is : ObjectNo → Data) (os : List ObjectNo) (n : ℕ)
    → ((i j : ℕ) (c : ObjectNo) → j ≡ n + i → slice_get os i ≡ Some c → at j (data_is c) ≡ part c) → map (λ (v : ℕ × Data). at v.0 v.1) (enumerate_from n (map data_is os)) ≡ map part os
numbered at part data_is [] n each = refl
numbered at part data_is (o ∷ os) n each =
    let first = each 0 n o (omega arith) refl in
    let rest = numbered at part data_is os (n + 1) (λ i j c e there. each (suc i) j c (omega (arith, e)) there) in
    λ i. first i ∷ rest i

object-is : (x : Option Value) (c : ObjectNo) → option_and_then object_of x ≡ Some c → x ≡ Some (value.Object c)
object-is None c h = absurd (none-some c h)
object-is (Some (value.Object d)) c h = ap (λ (x : ObjectNo). Some (value.Object x)) (same_Some d c h)
object-is (Some _) c h = absurd (none-some c h)

-- the object at an index of a list of only objects
pub object-at : (vs : List Value) (i : ℕ) (c : ObjectNo) → list_all lookups.is_object vs ≡ true → slice_get (objects_of vs) i ≡ Some c → slice_get vs i ≡ Some (value.Object c)
object-at vs i c all at = object-is (slice_get vs i) c (objects-get vs i all ∙ at)

-- an end that holds nothing has no objects
no-objects : (vs : List Value) → not (is_nil vs) ≡ false → objects_of vs ≡ []
no-objects [] h = refl
no-objects (v ∷ vs) h = absurd (true≢false h)

---------------------------------------------------------------- paths

-- an object that lives, in a resource
pub record IsPlaced (s : Model) (o : ObjectNo) : Type 0 where
  pub live : is_live (reading s) o ≡ true
  pub path : path_of (reading s) o ≡ Some (path_in (reading s) o)

-- if there is a path, it is the one that is used
pub own-path : (x : Option Path) (p : Path) → x ≡ Some p → x ≡ Some (unwrap_or x (new_path 0 []))
own-path x p is = is ∙ ap Some (sym (ap (λ (y : Option Path). unwrap_or y (new_path 0 [])) is))

-- the position of an object at a reference is its first
pub stands-at : (s : Model) (e : End) (i : ℕ) (o : ObjectNo) → IsLegal s → (shape s.metamodel e.feature).is_reference ≡ true → slice_get (values_at s e) i ≡ Some (value.Object o) → position_in (reading s) e o ≡ i
stands-at s e i o legal reference there =
    ap (λ (x : Option ℕ). unwrap_or x 0) (sym (position-target s e (value.Object o) (Some i) legal reference (ap (λ (vs : List Value). slice_get vs i) (sym (values-linked s e reference)) ∙ there)))

module _ (s : Model) (legal : IsLegal s) (k : ResourceNo) (o : ObjectNo) (placed : IsPlaced s o) where
  -- the values at an end of the object
  abbrev values : FeatureNo → List Value
  values f = values_at s (at_end (node.Object o) f)

  module _ (f : FeatureNo) (contains : is_containment s.metamodel f ≡ true) where
    refers : (shape s.metamodel f).is_reference ≡ true
    refers = contains-reference s.metamodel f f (contains-itself f (shape s.metamodel f).containing contains)

    all-are : list_all lookups.is_object (values f) ≡ true
    all-are = ends.all-objects s (at_end (node.Object o) f) legal contains

    -- the path of a part has one step more
    path-under : (i : ℕ) (c : ObjectNo) → slice_get (values f) i ≡ Some (value.Object c) → path_of (reading s) c ≡ Some (with_step (path_in (reading s) o) (step_to s.metamodel f i))
    path-under i c at =
        let r = reading s in
        let e = at_end (node.Object o) f in
        path-part s legal c e o (holder-at s legal (node.Object o) f contains i c at) refl
        ∙ ap (option_map (λ (q : Path). with_step q (step_into r e c))) placed.path
        ∙ ap (λ (j : ℕ). Some (with_step (path_in r o) (new_step (lookups.feature_name s.metamodel f) (if (shape s.metamodel f).is_single then None else Some j)))) (stands-at s e i c legal refers at)

    -- so each part lives, in a resource
    placed-under : (i : ℕ) (c : ObjectNo) → slice_get (values f) i ≡ Some (value.Object c) → IsPlaced s c
    placed-under i c at = record {
      live = live-under s legal (node.Object o) f i c contains at;
      path = own-path (path_of (reading s) c) (with_step (path_in (reading s) o) (step_to s.metamodel f i)) (path-under i c at);
    }

    all-under : AllByRecursion (IsPlaced s) (objects_of (values f))
    all-under = all-objects (IsPlaced s) (values f) placed-under

    ---------------------------------------------------------------- one feature

    -- the feature is written if it holds anything
    written-is : is_written (reading s) o f ≡ not (is_nil (values f))
    written-is =
        let r = reading s in
        let e = at_end (node.Object o) f in
        let plain = reference-plain s.metamodel f refers in
        ap (λ (b : Bool). is_set r e && not b) (plain-containment s.metamodel legal.metamodel f contains)
        ∙ and-true (is_set r e)
        ∙ set-by (shape s.metamodel f) (values f) (r.flag e) plain.0 plain.1 all-are

    -- then the values that are read under it are the data of each part
    values-read : not (is_nil (values f)) ≡ true → values_of s.metamodel (entry_of (reading s) k o f) ≡ map (data_of (reading s) k) (objects_of (values f))
    values-read some =
        let r = reading s in
        let written = value_data r k (data_of r k) f in
        let content = λ (b : Bool). (if b then written (value_in (values f) 0) else array (items_of (map written (values f)))) in
        elim (shape s.metamodel f).is_single as (λ b. (shape s.metamodel f).is_single ≡ b → (if b then content b ∷ [] else option_map_or list_of (as_array (content b)) []) ≡ map written (values f)) [
          | true ↦ λ single. one-value written (values f) (values-single s (at_end (node.Object o) f) legal refers single) some
          | false ↦ λ _. list_of-items_of (map written (values f))
        ] refl
        ∙ values-are r k (data_of r k) f contains (values f) all-are

    -- they are parts, each at its own path
    parts-under : not (is_nil (values f)) ≡ true → parts_in s.metamodel (path_in (reading s) o) (entry_of (reading s) k o f) ≡ map (part_of (reading s) k) (objects_of (values f))
    parts-under some =
        let r = reading s in
        let at : ℕ → Data → Part = λ i d. record { path = with_step (path_in r o) (step_to s.metamodel f i); json = d } in
        let all = λ (ds : List Data). map (λ (v : ℕ × Data). at v.0 v.1) (enumerate_from 0 ds) in
        ap (λ (b : Bool). if b then all (values_of s.metamodel (entry_of r k o f)) else []) contains
        ∙ ap all (values-read some)
        ∙ numbered at (part_of r k) (data_of r k) (objects_of (values f)) 0 (λ i j c e there.
        let same : i ≡ j = omega (arith, e) in
        let path = path-under i c (object-at (values f) i c all-are there) in
        ap (λ (n : ℕ). at n (data_of r k c)) (sym same) ∙ (λ l. record { path = unwrap_or (sym path l) (new_path 0 []); json = data_of r k c }))

    -- a feature that is not written has no parts
    none-under : is_written (reading s) o f ≡ false → objects_of (values f) ≡ []
    none-under none = no-objects (values f) (sym written-is ∙ none)

  ---------------------------------------------------------------- all features

  -- feature by feature
  parts-of : (fs : List FeatureNo) → flat_map (parts_in s.metamodel (path_in (reading s) o)) (map (entry_of (reading s) k o) (filter (is_written (reading s) o) fs))
      ≡ map (part_of (reading s) k) (forest.parts (reading s) (node.Object o) fs)
  parts-of [] = refl
  parts-of (f ∷ fs) =
      let r = reading s in
      let m = s.metamodel in
      let read = parts_in m (path_in r o) in
      let entry = entry_of r k o in
      let written = filter (is_written r o) fs in
      let held = filter (is_containment m) fs in
      let rest = parts-of fs in
      let at : ℕ × Data → Part = λ v. record { path = with_step (path_in r o) (step_to m f v.0); json = v.1 } in
      elim (is_containment m f) as (λ c. is_containment m f ≡ c
      → flat_map read (map entry (cond (is_written r o f) (f ∷ written) written)) ≡ map (part_of r k) (flat_map (λ g. objects_of (values g)) (cond c (f ∷ held) held))) [
        | true ↦ λ contains. elim (is_written r o f) as (λ b. is_written r o f ≡ b → flat_map read (map entry (cond b (f ∷ written) written)) ≡ map (part_of r k) (objects_of (values f) ++ forest.parts r (node.Object o) fs)) [
          | true ↦ λ is.
              let here = parts-under f contains (sym (written-is f contains) ∙ is) in
              (λ i. here i ++ rest i) ∙ sym (map-append (part_of r k) (objects_of (values f)) (forest.parts r (node.Object o) fs))
          | false ↦ λ none. rest ∙ ap (λ (os : List ObjectNo). map (part_of r k) (os ++ forest.parts r (node.Object o) fs)) (sym (none-under f contains none))
        ] refl
        | false ↦ λ other. elim (is_written r o f) as (λ b. flat_map read (map entry (cond b (f ∷ written) written)) ≡ map (part_of r k) (forest.parts r (node.Object o) fs)) [
          | true ↦ ap (λ (b : Bool). (if b then map at (enumerate_from 0 (values_of m (entry f))) else []) ++ flat_map read (map entry written)) other ∙ rest
          | false ↦ rest
        ]
      ] refl

  -- the parts inside of an object are those of the objects that it contains
  pub parts-read : flat_map (parts_in s.metamodel (path_in (reading s) o)) (entries s.metamodel (data_of (reading s) k o)) ≡ map (part_of (reading s) k) (forest.contents (reading s) (node.Object o))
  parts-read = ap (flat_map (parts_in s.metamodel (path_in (reading s) o))) (object-read s legal k o placed.live).entries ∙ parts-of (all_features_of (reading s) (node.Object o))

  all-parts : (fs : List FeatureNo) → AllByRecursion (IsPlaced s) (forest.parts (reading s) (node.Object o) fs)
  all-parts [] = tt
  all-parts (f ∷ fs) =
      let held = filter (is_containment s.metamodel) fs in
      elim (is_containment s.metamodel f) as (λ c. is_containment s.metamodel f ≡ c → AllByRecursion (IsPlaced s) (flat_map (λ g. objects_of (values_at s (at_end (node.Object o) g))) (cond c (f ∷ held) held))) [
        | true ↦ λ contains. all-append (IsPlaced s) (objects_of (values f)) (forest.parts (reading s) (node.Object o) fs) (all-under f contains) (all-parts fs)
        | false ↦ λ _. all-parts fs
      ] refl

  -- each of these objects lives, in a resource
  pub all-placed : AllByRecursion (IsPlaced s) (forest.contents (reading s) (node.Object o))
  all-placed = all-parts (all_features_of (reading s) (node.Object o))
