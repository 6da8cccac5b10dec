-- The objects of a resource are exactly the objects of the trees of its roots.
use Rattle.std.proofs.Common.{◌≡◌, ℕ, zero, suc, true, Contains, ◌∷◌, flat_map, length, slice_get, Some, eq-eqb, inl, inr, refl, ap, ◌∙◌}
use Rattle.std.specs.List.{list_any}
use Rattle.std.proofs.lemmas.Bool.{false≢true, or_cases, or_left, or_right}
use Rattle.mm_types.specs.Lookups as lookups
use Rattle.mm_types.specs.Same.{same_node, same_object}
use Rattle.mm_types.specs.Shapes.{is_containment}
use Rattle.mm_types.specs.declared.end.End.{End}
use Rattle.mm_types.specs.declared.numbers.FeatureNo.{FeatureNo}
use Rattle.mm_types.specs.declared.numbers.Node.{Node}
use Rattle.mm_types.specs.declared.numbers.Node.TheVariants as node
use Rattle.mm_types.specs.declared.numbers.ObjectNo.{ObjectNo}
use Rattle.mm_types.specs.declared.numbers.ResourceNo.{ResourceNo}
use Rattle.mm_types.specs.declared.value.Value.TheVariants as value
use Rattle.links.proofs.AboveLemmas.{above_held}
use Rattle.links.specs.Holders.{above, holder}
use Rattle.models.specs.Legal.{IsLegal}
use Rattle.models.specs.Model.{Model, reading, values_at}
use Rattle.models.specs.Reading.{at_end, is_within, roots_end}
use Rattle.containment.proofs.MemberLemmas.{all-among, flat_map-from, same-object, subtree-has}
use Rattle.containment.proofs.PartLemmas.{IsPart, all-objects, contents-parts, holder-at}
use Rattle.containment.specs.Above.{resource_of}
use Rattle.containment.specs.Forest.{contents, subtree, tree}
use Rattle.fragment_paths.proofs.HeldLemmas.{held, root-found}
use Rattle.fragment_paths.proofs.InsideLemmas.{contents-contains, each-inside}
use Rattle.fragment_paths.proofs.UpLemmas.{resource-part, resource-root}
use Rattle.fragment_paths.specs.Finding.{roots}
use Rattle.fragment_paths.specs.Fragments.{position_in}
use Rattle.doc_writer.specs.Written.{objects_in}
use Rattle.round_trip.proofs.ValuesListLemmas.{among-found, found-among, in-all}

-- a root of a resource, and an object in its tree
record IsUnderRoot (s : Model) (k : ResourceNo) (o : ObjectNo) : Type 0 where
  root : ObjectNo
  place : ℕ
  there : slice_get (roots (reading s) k) place ≡ Some root
  below : is_within (reading s) (node.Object root) (node.Object o) ≡ true

module _ (s : Model) (legal : IsLegal s) where
  ---------------------------------------------------------------- down the trees

  -- a root of a resource is in it
  root-inside : (k : ResourceNo) (o : ObjectNo) → list_any (same_object o) (roots (reading s) k) ≡ true → resource_of (reading s).above o ≡ Some k
  root-inside k o h =
      let f = lookups.contents s.metamodel in
      all-among (λ c. resource_of (reading s).above c ≡ Some k) (roots (reading s) k) o
      (all-objects (λ c. resource_of (reading s).above c ≡ Some k) (values_at s (roots_end (reading s) k))
      (λ i c at. resource-root s legal c (roots_end (reading s) k) k (holder-at s legal (node.Resource k) f (contents-contains s.metamodel) i c at) refl)) h

  -- all objects of the tree of an object are in the object's resource
  tree-inside : (n : ℕ) (o c : ObjectNo) (k : ResourceNo) → resource_of (reading s).above o ≡ Some k → list_any (same_object c) (tree (reading s) n o) ≡ true → resource_of (reading s).above c ≡ Some k
  tree-inside zero o c k at h = absurd (false≢true h)
  tree-inside (suc n) o c k at h =
      let parts = contents (reading s) (node.Object o) in
      elim (or_cases (same_object c o) (list_any (same_object c) (flat_map (tree (reading s) n) parts)) h) [
        | inl here ↦ ap (resource_of (reading s).above) (same-object c o here) ∙ at
        | inr later ↦
            let f = flat_map-from (tree (reading s) n) parts c later in
            let part = all-among (IsPart s (node.Object o)) parts f.from (contents-parts s legal (node.Object o)) f.among in
            tree-inside n f.from c k (resource-part s legal f.from part.by o part.held part.here ∙ at) f.gives
      ]

  -- an object that is written is in the resource
  pub written-inside : (k : ResourceNo) (o : ObjectNo) → Contains (objects_in (reading s) k) o → resource_of (reading s).above o ≡ Some k
  written-inside k o c =
      let f = flat_map-from (subtree (reading s)) (roots (reading s) k) o (found-among (objects_in (reading s) k) o c) in
      tree-inside (suc (length s.values.objects)) f.from o k (root-inside k f.from f.among) f.gives

  ---------------------------------------------------------------- up the holders

  -- each object of a resource is a root of it or below one
  root-under : (k : ResourceNo) (o : ObjectNo) (e : End) → holder s.links (node.Object o) ≡ Some e → e.node ≡ node.Resource k → IsUnderRoot s k o
  root-under k o e h is = record {
    root = o;
    place = position_in (reading s) e o;
    there = root-found s legal o e k (held s legal o e h) is;
    below = or_left _ _ (eq-eqb o.0 o.0 refl);
  }

  part-under : (k : ResourceNo) (o : ObjectNo) (e : End) (p : ObjectNo) → holder s.links (node.Object o) ≡ Some e → e.node ≡ node.Object p → IsUnderRoot s k p → IsUnderRoot s k o
  part-under k o e p h is up =
      let nodes = above_held s.links legal.links.set legal.links.forest (node.Object o) e h ∙ ap (λ (n : Node). n ∷ above s.links n) is in
      record {
        root = up.root;
        place = up.place;
        there = up.there;
        below = or_right _ _ (ap (list_any (same_node (node.Object up.root))) nodes ∙ up.below);
      }

  -- an object of the resource is written
  pub inside-written : (k : ResourceNo) (o : ObjectNo) → resource_of (reading s).above o ≡ Some k → Contains (objects_in (reading s) k) o
  inside-written k o inside =
      let r = reading s in
      let under = each-inside s legal (IsUnderRoot s k) k (root-under k) (λ c e p h is _ up. part-under k c e p h is up) o inside in
      in-all (subtree r) (roots r k) under.place under.root o under.there (among-found (subtree r under.root) o (subtree-has s legal under.root (node.Object o) ∙ under.below))

  -- an object that a written object contains is written
  pub part-written : (k : ResourceNo) (o : ObjectNo) (f : FeatureNo) (i : ℕ) (c : ObjectNo) → Contains (objects_in (reading s) k) o → is_containment s.metamodel f ≡ true
      → slice_get ((reading s).values (at_end (node.Object o) f)) i ≡ Some (value.Object c) → Contains (objects_in (reading s) k) c
  part-written k o f i c written contains at =
      let h = holder-at s legal (node.Object o) f contains i c at in
      inside-written k c (resource-part s legal c (at_end (node.Object o) f) o h refl ∙ written-inside k o written)
