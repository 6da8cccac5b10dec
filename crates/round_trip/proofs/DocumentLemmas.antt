-- The parts of the document of a resource are its objects, in loading order.
use Rattle.std.proofs.Common.{◌≡◌, ◌∙◌, ◌+◌, ◌<◌, ◌++◌, ℕ, zero, suc, List, [], ◌∷◌, Option, Some, Contains, arith, flat_map, length, map, pos, slice_get, true, refl, sym, ap}
use Rattle.std.specs.Prelude.{unwrap_or}
use Rattle.std.specs.List.{AllByRecursion, enumerate_from}
use Rattle.std.specs.Option.{option_map_or}
use Rattle.std.proofs.lemmas.List.Elements.{All-contains, All-from_recursion}
use Rattle.std.proofs.lemmas.List.{map-append}
use Rattle.serde_json.specs.Data.{Data, depth}
use Rattle.serde_json.specs.View.{items_of}
use Rattle.serde_json.proofs.OnLiterals.{serde_json_on_literals}
use Rattle.mm_types.specs.Lookups as lookups
use Rattle.mm_types.specs.Shapes.{is_containment, shape}
use Rattle.mm_types.specs.declared.numbers.Node.TheVariants as node
use Rattle.mm_types.specs.declared.numbers.ObjectNo.{ObjectNo}
use Rattle.mm_types.specs.declared.numbers.ResourceNo.{ResourceNo}
use Rattle.mm_types.specs.declared.value.Value.TheVariants as value
use Rattle.models.specs.Legal.{IsLegal}
use Rattle.models.specs.Model.{Model, reading, values_at}
use Rattle.models.specs.Reading.{Reading, roots_end}
use Rattle.containment.proofs.PartLemmas.{all-objects, contains-itself, contains-reference, holder-at}
use Rattle.containment.proofs.TreeLemmas.{enough-levels, some-made, subtree-parts}
use Rattle.containment.specs.Forest.{contents, subtree, tree}
use Rattle.web_uris.specs.Paths.{new_path}
use Rattle.fragment_paths.proofs.ObjectLemmas as ends
use Rattle.fragment_paths.proofs.UpLemmas.{path-root}
use Rattle.fragment_paths.specs.Finding.{roots}
use Rattle.fragment_paths.specs.Fragments.{path_of}
use Rattle.fragment_paths.proofs.InsideLemmas.{contents-contains}
use Rattle.mm_types.specs.declared.limits.TheConstants.{DOCUMENT_FORMAT}
use Rattle.doc_parts.proofs.DataLemmas.{list_of-items_of}
use Rattle.doc_parts.proofs.DepthLemmas.{parts_within}
use Rattle.doc_parts.specs.Layout.{Top, new_top, top}
use Rattle.doc_parts.specs.Parts.{Part, list_of, parts, parts_from, root_parts}
use Rattle.doc_writer.specs.Document.{document}
use Rattle.doc_writer.specs.Written.{objects_in}
use Rattle.round_trip.specs.PartsLaws.{AreParts}
use Rattle.round_trip.specs.Parts.{data_of, part_of}
use Rattle.round_trip.proofs.ChildLemmas.{IsPlaced, all-placed, numbered, object-at, own-path, parts-read, stands-at}
use Rattle.round_trip.proofs.LevelLemmas.{live-under}
use Rattle.round_trip.proofs.PartsListLemmas.{all-flat_map}
use Rattle.round_trip.proofs.ObjectLemmas.{object-read}

-- the parts that are found in a list of parts are those of the objects
same-parts : (P : ObjectNo → Type 0) (part : ObjectNo → Part) (read : Part → List Part) (below : ObjectNo → List ObjectNo) (os : List ObjectNo)
    → ((o : ObjectNo) → P o → read (part o) ≡ map part (below o)) → AllByRecursion P os → flat_map read (map part os) ≡ map part (flat_map below os)
same-parts P part read below [] same all = refl
same-parts P part read below (o ∷ os) same all =
    let here = same o all.0 in
    let rest = same-parts P part read below os same all.1 in
    (λ i. here i ++ rest i) ∙ sym (map-append part (below o) (flat_map below os))

-- the document has its roots
top-read : (r : Reading) (k : ResourceNo) → top (document r k) ≡ Some (new_top (pos DOCUMENT_FORMAT) (items_of (map (data_of r k) (roots r k))))
unfolding top document serde_json_on_literals
top-read r k = refl

module _ (s : Model) (legal : IsLegal s) where
  ---------------------------------------------------------------- trees

  -- with enough levels a tree is the subtree
  tree-whole : (more n : ℕ) (o : ObjectNo) → n ≡ more + length s.values.objects → 0 < length s.values.objects → tree (reading s) n o ≡ subtree (reading s) o
  tree-whole zero n o is some = let same : n ≡ length s.values.objects = omega (arith, is) in ap (λ (j : ℕ). tree (reading s) j o) same ∙ enough-levels s legal o some
  tree-whole (suc more) zero o is some = absurd (omega (arith, is))
  tree-whole (suc more) (suc n) o is some =
      ap (λ (below : ObjectNo → List ObjectNo). o ∷ flat_map below (contents (reading s) (node.Object o))) (λ i c. tree-whole more n c (omega (arith, is)) some i)
      ∙ sym (subtree-parts s legal o)

  module _ (k : ResourceNo) where
    -- a part and all parts inside of it are an object and all objects below it
    tree-read : (n : ℕ) (o : ObjectNo) → IsPlaced s o → parts_from s.metamodel n (part_of (reading s) k o) ≡ map (part_of (reading s) k) (tree (reading s) n o)
    tree-read zero o placed = refl
    tree-read (suc n) o placed =
        let r = reading s in
        let part = part_of r k in
        let read = parts_from s.metamodel n in
        let held = contents r (node.Object o) in
        ap (λ ps. part o ∷ flat_map read ps) (parts-read s legal k o placed)
        ∙ ap (λ ps. part o ∷ ps) (same-parts (IsPlaced s) part read (tree r n) held (tree-read n) (all-placed s legal k o placed))

    -- each of these objects lives, in a resource
    tree-placed : (n : ℕ) (o : ObjectNo) → IsPlaced s o → AllByRecursion (IsPlaced s) (tree (reading s) n o)
    tree-placed zero o placed = tt
    tree-placed (suc n) o placed = (placed, all-flat_map (IsPlaced s) (IsPlaced s) (tree (reading s) n) (contents (reading s) (node.Object o)) (tree-placed n) (all-placed s legal k o placed))

    ---------------------------------------------------------------- roots

    contained : is_containment s.metamodel (lookups.contents s.metamodel) ≡ true
    contained = contents-contains s.metamodel

    refers : (shape s.metamodel (lookups.contents s.metamodel)).is_reference ≡ true
    refers = let f = lookups.contents s.metamodel in contains-reference s.metamodel f f (contains-itself f (shape s.metamodel f).containing contained)

    -- the path of a root is its position
    root-path : (i : ℕ) (o : ObjectNo) → slice_get (values_at s (roots_end (reading s) k)) i ≡ Some (value.Object o) → path_of (reading s) o ≡ Some (new_path i [])
    root-path i o at =
        let e = roots_end (reading s) k in
        path-root s legal o e k (holder-at s legal (node.Resource k) (lookups.contents s.metamodel) contained i o at) refl
        ∙ ap (λ (j : ℕ). Some (new_path j [])) (stands-at s e i o legal refers at)

    roots-placed : AllByRecursion (IsPlaced s) (roots (reading s) k)
    roots-placed = all-objects (IsPlaced s) (values_at s (roots_end (reading s) k)) (λ i o at. record {
      live = live-under s legal (node.Resource k) (lookups.contents s.metamodel) i o contained at;
      path = own-path (path_of (reading s) o) (new_path i []) (root-path i o at);
    })

    -- the roots that are read are those of the resource
    roots-read : root_parts (document (reading s) k) ≡ map (part_of (reading s) k) (roots (reading s) k)
    roots-read =
        let r = reading s in
        let e = roots_end r k in
        let at : ℕ → Data → Part = λ i d. record { path = new_path i []; json = d } in
        let all = λ (ds : List Data). map (λ (v : ℕ × Data). at v.0 v.1) (enumerate_from 0 ds) in
        ap (λ (t : Option Top). option_map_or (λ (t : Top). all (list_of t.roots)) t []) (top-read r k)
        ∙ ap all (list_of-items_of (map (data_of r k) (roots r k)))
        ∙ numbered at (part_of r k) (data_of r k) (roots r k) 0 (λ i j o number there.
        let same : i ≡ j = omega (arith, number) in
        let path = root-path i o (object-at (values_at s e) i o (ends.all-objects s e legal contained) there) in
        ap (λ (n : ℕ). at n (data_of r k o)) (sym same) ∙ (λ l. record { path = unwrap_or (sym path l) (new_path 0 []); json = data_of r k o }))

    ---------------------------------------------------------------- the document

    -- all parts are the objects of the resource, in the order of the trees
    parts-are : parts s.metamodel (document (reading s) k) ≡ map (part_of (reading s) k) (objects_in (reading s) k)
    parts-are =
        let r = reading s in
        let n = depth (document r k) + length s.values.objects in
        parts_within s.metamodel n (document r k) (omega arith)
        ∙ ap (flat_map (parts_from s.metamodel n)) roots-read
        ∙ same-parts (IsPlaced s) (part_of r k) (parts_from s.metamodel n) (subtree r) (roots r k)
        (λ o placed. tree-read n o placed ∙ ap (map (part_of r k)) (tree-whole (depth (document r k)) n o refl (some-made s o placed.live))) roots-placed

    objects-placed : AllByRecursion (IsPlaced s) (objects_in (reading s) k)
    objects-placed = all-flat_map (IsPlaced s) (IsPlaced s) (subtree (reading s)) (roots (reading s) k) (tree-placed (suc (length s.values.objects))) roots-placed

    -- each object of the resource lives, and has a path
    object-placed : (o : ObjectNo) → Contains (objects_in (reading s) k) o → IsPlaced s o
    object-placed o there = All-contains (IsPlaced s) (objects_in (reading s) k) o (All-from_recursion (IsPlaced s) (objects_in (reading s) k) objects-placed) there

    -- the parts of the document of a resource are its objects
    pub parts-saved : AreParts (reading s) k
    parts-saved = record {
      top = top-read (reading s) k;
      roots = roots-read;
      parts = parts-are;
      each = λ o there. object-read s legal k o (object-placed o there).live;
    }
