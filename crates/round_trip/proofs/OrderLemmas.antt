-- The objects of a resource are all different, so the number of each is its index among them.
use Rattle.std.proofs.Common.{◌≡◌, ◌∙◌, ℕ, zero, suc, Bool, true, false, cond, List, [], ◌∷◌, Option, Some, None, ap, eq-eqb, inl, inr, option_map, refl, slice_get, sym, subst}
use Rattle.std.specs.Prelude.{Contains, flat_map, position}
use Rattle.std.specs.List.{IsDistinct, list_any}
use Rattle.std.proofs.lemmas.Bool.{false≢true, or_cases, false_from_ne_true}
use Rattle.std.proofs.lemmas.Option.{none-some, same_Some}
use Rattle.mm_types.specs.Lookups as lookups
use Rattle.mm_types.specs.Same.{same_object}
use Rattle.mm_types.specs.declared.end.End.{End}
use Rattle.mm_types.specs.declared.numbers.Node.TheVariants as node
use Rattle.mm_types.specs.declared.numbers.ObjectNo.{ObjectNo}
use Rattle.mm_types.specs.declared.numbers.ResourceNo.{ResourceNo}
use Rattle.mm_types.specs.declared.value.Value.{Value}
use Rattle.mm_types.specs.declared.value.Value.TheVariants as value
use Rattle.links.specs.Holders.{holder}
use Rattle.links.specs.Links.{end}
use Rattle.models.specs.Legal.{IsLegal}
use Rattle.models.specs.Model.{Model, reading, values_at}
use Rattle.models.specs.Reading.{object_of, objects_of, roots_end}
use Rattle.containment.specs.Forest.{contents, subtree, tree}
use Rattle.containment.proofs.DistinctLemmas.{distinct-++, objects-distinct, subtree-distinct}
use Rattle.containment.proofs.MemberLemmas.{all-among, flat_map-from, same-object}
use Rattle.containment.proofs.PartLemmas.{IsPart, all-objects, contains-itself, contains-reference, contents-parts, holder-at, values-linked}
use Rattle.web_uris.specs.Paths.{with_step}
use Rattle.web_uris.specs.declared.path.Path.{Path}
use Rattle.web_uris.specs.declared.path.Step.{Step}
use Rattle.fragment_paths.specs.Finding.{roots}
use Rattle.fragment_paths.specs.Fragments.{path_of, position_in, step_into}
use Rattle.fragment_paths.proofs.HeldLemmas.{held}
use Rattle.fragment_paths.proofs.UpLemmas.{path-part, path-root}
use Rattle.doc_writer.specs.Written.{objects_in}
use Rattle.doc_parts.proofs.WayLemmas.{position_cons}
use Rattle.fragment_paths.proofs.InsideLemmas.{contents-contains}
use Rattle.round_trip.proofs.ValuesListLemmas.{among-found, behind, in-front, stands}
use Rattle.round_trip.proofs.ListLemmas.{of-each}

---------------------------------------------------------------- lists of objects

-- lists of different objects, no two of which share one
distinct-flat_map : (f : ObjectNo → List ObjectNo) (xs : List ObjectNo) → ((x : ObjectNo) → Contains xs x → IsDistinct same_object (f x)) → IsDistinct same_object xs
    → ((x y c : ObjectNo) → Contains xs x → Contains xs y → list_any (same_object c) (f x) ≡ true → list_any (same_object c) (f y) ≡ true → x ≡ y) → IsDistinct same_object (flat_map f xs)
unfolding IsDistinct
distinct-flat_map f [] each d one = tt
distinct-flat_map f (x ∷ xs) each d one =
    distinct-++ (f x) (flat_map f xs) (each x (in-front x xs)) (distinct-flat_map f xs (λ y there. each y (behind x xs y there)) d.1 (λ y z c a b. one y z c (behind x xs y a) (behind x xs z b)))
    (λ c h q.
    let r = flat_map-from f xs c q in
    let there = among-found xs r.from r.among in
    let same = one x r.from c (in-front x xs) (behind x xs r.from there) h r.gives in
    false≢true (sym (of-each (λ y. same_object x y ≡ false) xs r.from d.0 there) ∙ eq-eqb x.0 r.from.0 (λ i. (same i).0)))

---------------------------------------------------------------- positions

-- the index of an object after another
position-next : (o x : ObjectNo) (xs : List ObjectNo) → same_object o x ≡ false → position (same_object o) (x ∷ xs) ≡ option_map suc (position (same_object o) xs)
position-next o x xs other = position_cons (same_object o) x xs ∙ ap (λ (b : Bool). cond b (Some 0) (option_map suc (position (same_object o) xs))) other

position-first : (o x : ObjectNo) (xs : List ObjectNo) → same_object o x ≡ true → position (same_object o) (x ∷ xs) ≡ Some 0
position-first o x xs same = position_cons (same_object o) x xs ∙ ap (λ (b : Bool). cond b (Some 0) (option_map suc (position (same_object o) xs))) same

-- an object that is found at an index is there
pub position-there : (os : List ObjectNo) (o : ObjectNo) (n : ℕ) → position (same_object o) os ≡ Some n → slice_get os n ≡ Some o
position-there [] o n at = absurd (none-some n at)
position-there (x ∷ xs) o n at =
    elim (same_object o x) as (λ b. same_object o x ≡ b → slice_get (x ∷ xs) n ≡ Some o) [
      | true ↦ λ same. ap (slice_get (x ∷ xs)) (sym (same_Some 0 n (sym (position-first o x xs same) ∙ at))) ∙ ap Some (sym (same-object o x same))
      | false ↦ λ other. by (position (same_object o) xs) refl (sym (position-next o x xs other) ∙ at) (λ k is. position-there xs o k is)
    ] refl
  where
    by : (q : Option ℕ) → position (same_object o) xs ≡ q → option_map suc q ≡ Some n → ((k : ℕ) → position (same_object o) xs ≡ Some k → slice_get xs k ≡ Some o) → slice_get (x ∷ xs) n ≡ Some o
    by None is h there = absurd (none-some n h)
    by (Some k) is h there = ap (slice_get (x ∷ xs)) (sym (same_Some (suc k) n h)) ∙ there k is

-- in a list of different objects the object at an index is found there
pub there-position : (os : List ObjectNo) (o : ObjectNo) (n : ℕ) → IsDistinct same_object os → slice_get os n ≡ Some o → position (same_object o) os ≡ Some n
unfolding IsDistinct
there-position [] o n d at = absurd (none-some o at)
there-position (x ∷ xs) o zero d at = position-first o x xs (eq-eqb o.0 x.0 (ap (λ (y : ObjectNo). y.0) (sym (same_Some x o at))))
there-position (x ∷ xs) o (suc n) d at =
    let there = stands xs n o at in
    position-next o x xs (false_from_ne_true (same_object o x) (λ same. false≢true (sym (of-each (λ y. same_object x y ≡ false) xs o d.0 there) ∙ eq-eqb x.0 o.0 (ap (λ (y : ObjectNo). y.0) (sym (same-object o x same))))))
    ∙ ap (option_map suc) (there-position xs o n d.1 at)

---------------------------------------------------------------- the objects of a resource

root-kept : (x : Option Path) (t : Step) → option_map (λ (q : Path). q.root) (option_map (λ q. with_step q t) x) ≡ option_map (λ (q : Path). q.root) x
root-kept None t = refl
root-kept (Some q) t = refl

module _ (s : Model) (legal : IsLegal s) (k : ResourceNo) where
  -- all objects of a tree are reached from one root
  same-root : (n i : ℕ) (p c : ObjectNo) → option_map (λ (q : Path). q.root) (path_of (reading s) p) ≡ Some i → list_any (same_object c) (tree (reading s) n p) ≡ true
      → option_map (λ (q : Path). q.root) (path_of (reading s) c) ≡ Some i
  same-root zero i p c at h = absurd (false≢true h)
  same-root (suc n) i p c at h =
      let parts = contents (reading s) (node.Object p) in
      elim (or_cases (same_object c p) (list_any (same_object c) (flat_map (tree (reading s) n) parts)) h) [
        | inl here ↦ subst (λ (o : ObjectNo). option_map (λ (q : Path). q.root) (path_of (reading s) o) ≡ Some i) (sym (same-object c p here)) at
        | inr low ↦
            let r = flat_map-from (tree (reading s) n) parts c low in
            let part = all-among (IsPart s (node.Object p)) parts r.from (contents-parts s legal (node.Object p)) r.among in
            same-root n i r.from c
            (ap (option_map (λ (q : Path). q.root)) (path-part s legal r.from part.by p part.held part.here) ∙ root-kept (path_of (reading s) p) (step_into (reading s) part.by r.from) ∙ at)
            r.gives
      ]

  abbrev end-of : End
  end-of = roots_end (reading s) k

  -- the holder of a root is the resource, which has the root at its position
  root-held : (o : ObjectNo) → Contains (roots (reading s) k) o → holder s.links (node.Object o) ≡ Some end-of
  root-held o there =
      of-each (λ x. holder s.links (node.Object x) ≡ Some end-of) (roots (reading s) k) o
      (all-objects (λ x. holder s.links (node.Object x) ≡ Some end-of) (values_at s end-of) (λ i c at. holder-at s legal (node.Resource k) (lookups.contents s.metamodel) (contents-contains s.metamodel) i c at)) there

  root-path : (o : ObjectNo) → Contains (roots (reading s) k) o → option_map (λ (q : Path). q.root) (path_of (reading s) o) ≡ Some (position_in (reading s) end-of o)
  root-path o there = ap (option_map (λ (q : Path). q.root)) (path-root s legal o end-of k (root-held o there) refl)

  object-value : (x y : ObjectNo) → value.Object x ≡ value.Object y → x ≡ y
  object-value x y same = same_Some x y (ap object_of same)

  one-root : (x y c : ObjectNo) → Contains (roots (reading s) k) x → Contains (roots (reading s) k) y → list_any (same_object c) (subtree (reading s) x) ≡ true → list_any (same_object c) (subtree (reading s) y) ≡ true → x ≡ y
  one-root x y c a b h q =
      let r = reading s in
      let same = same_Some _ _ (sym (same-root (suc r.next) (position_in r end-of x) x c (root-path x a) h) ∙ same-root (suc r.next) (position_in r end-of y) y c (root-path y b) q) in
      let there = held s legal x end-of (root-held x a) in
      let other = held s legal y end-of (root-held y b) in
      object-value x y (same_Some _ _ (sym there.here ∙ ap (slice_get (values_at s end-of)) same ∙ other.here))

  roots-distinct : IsDistinct same_object (roots (reading s) k)
  roots-distinct =
      let linked = values-linked s end-of (contains-reference s.metamodel (lookups.contents s.metamodel) (lookups.contents s.metamodel) (contains-itself _ _ (contents-contains s.metamodel))) in
      subst (λ (vs : List Value). IsDistinct same_object (objects_of vs)) (sym linked) (objects-distinct (end s.links end-of) (legal.links.set.placed.distinct end-of))

  pub objects-apart : IsDistinct same_object (objects_in (reading s) k)
  objects-apart = distinct-flat_map (subtree (reading s)) (roots (reading s) k) (λ x there. subtree-distinct s legal x) roots-distinct one-root
