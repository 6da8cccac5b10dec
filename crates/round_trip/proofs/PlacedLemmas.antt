-- Each object that is written is in the resource, and its part has its number and its level.
use Rattle.std.proofs.Common.{◌≡◌, suc, Bool, true, false, Contains, List, [], ◌∷◌, length, Option, Some, option_map, unwrap_or, arith, eq-eqb, refl, sym, ap, ◌∙◌, length-append}
use Rattle.std.proofs.lemmas.Bool.{false≢true}
use Rattle.std.proofs.lemmas.Option.{same_Some}
use Rattle.std.specs.Option.{option_map_or}
use Rattle.mm_types.specs.Same.{same_object}
use Rattle.mm_types.specs.declared.end.End.{End}
use Rattle.mm_types.specs.declared.numbers.Node.{Node}
use Rattle.mm_types.specs.declared.numbers.Node.TheVariants as node
use Rattle.mm_types.specs.declared.numbers.ObjectNo.{ObjectNo}
use Rattle.mm_types.specs.declared.numbers.ResourceNo.{ResourceNo}
use Rattle.links.proofs.AboveLemmas.{above_held, above_is, resource_top}
use Rattle.links.specs.Holders.{above, holder}
use Rattle.models.specs.Legal.{IsLegal}
use Rattle.models.specs.Model.{Model, reading}
use Rattle.containment.proofs.MemberLemmas.{same-object}
use Rattle.containment.specs.Above.{resource_of}
use Rattle.web_uris.specs.Paths.{new_path, same_path, with_step}
use Rattle.web_uris.specs.declared.path.Path.{Path}
use Rattle.fragment_paths.proofs.FoundLemmas.{located-object}
use Rattle.fragment_paths.proofs.UpLemmas.{path-part, path-root}
use Rattle.fragment_paths.specs.Finding.{find}
use Rattle.fragment_paths.specs.Fragments.{path_of, step_into}
use Rattle.doc_parts.proofs.WayLemmas.{same_path_self, same_path_tells}
use Rattle.doc_parts.specs.Parts.{Part}
use Rattle.doc_writer.specs.Written.{objects_in}
use Rattle.fragment_paths.proofs.InsideLemmas.{each-inside}
use Rattle.round_trip.specs.Parts.{part_of, path_in}
use Rattle.round_trip.proofs.InsideLemmas.{written-inside}
use Rattle.round_trip.proofs.ValuesListLemmas.{position-map}
use Rattle.round_trip.specs.ValuesLaws.{IsPlaced}

module _ (s : Model) (legal : IsLegal s) where
  ---------------------------------------------------------------- paths

  -- an object of a resource has a path
  pub has-path : (k : ResourceNo) (o : ObjectNo) → resource_of (reading s).above o ≡ Some k → path_of (reading s) o ≡ Some (path_in (reading s) o)
  has-path k o inside =
      let at = located-object s legal o k inside in
      at.is ∙ ap Some (sym (ap (λ (x : Option Path). unwrap_or x (new_path 0 [])) at.is))

  -- the path of an object leads to it
  path-finds : (k : ResourceNo) (o : ObjectNo) → resource_of (reading s).above o ≡ Some k → find (reading s) k (path_in (reading s) o) ≡ Some o
  path-finds k o inside =
      let at = located-object s legal o k inside in
      ap (λ (x : Option Path). find (reading s) k (unwrap_or x (new_path 0 []))) at.is ∙ at.finds

  -- so two objects with the same path are the same object
  one-path : (k : ResourceNo) (o p : ObjectNo) → resource_of (reading s).above o ≡ Some k → resource_of (reading s).above p ≡ Some k
      → same_path (path_in (reading s) o) (path_in (reading s) p) ≡ same_object o p
  one-path k o p here there = by (same_path (path_in (reading s) o) (path_in (reading s) p)) (same_object o p) refl refl
    where
      by : (a b : Bool) → same_path (path_in (reading s) o) (path_in (reading s) p) ≡ a → same_object o p ≡ b → a ≡ b
      by true true x y = refl
      by false false x y = refl
      by true false x y =
          let path = same_path_tells (path_in (reading s) o) (path_in (reading s) p) x in
          let same = same_Some o p (sym (path-finds k o here) ∙ ap (find (reading s) k) path ∙ path-finds k p there) in
          absurd (false≢true (sym y ∙ eq-eqb o.0 p.0 (λ i. (same i).0)))
      by false true x y = sym x ∙ ap (λ (q : ObjectNo). same_path (path_in (reading s) o) (path_in (reading s) q)) (sym (same-object o p y)) ∙ same_path_self (path_in (reading s) o)

  ---------------------------------------------------------------- levels

  above-one : (o : ObjectNo) (e : End) → holder s.links (node.Object o) ≡ Some e → length (above s.links (node.Object o)) ≡ suc (length (above s.links e.node))
  above-one o e h = ap (λ (ns : List Node). length ns) (above_held s.links legal.links.set legal.links.forest (node.Object o) e h)

  above-none : (k : ResourceNo) → length (above s.links (node.Resource k)) ≡ 0
  above-none k =
      ap (λ (ns : List Node). length ns) (above_is s.links legal.links.set legal.links.forest (node.Resource k)
      ∙ ap (λ (x : Option End). option_map_or (λ (e : End). e.node ∷ above s.links e.node) x []) (resource_top s.links k legal.links.set))

  -- a path has one step fewer than there are nodes above its object
  abbrev HasLevel : ObjectNo → Type 0
  HasLevel o = (q : Path) → path_of (reading s) o ≡ Some q → suc (length q.steps) ≡ length (above s.links (node.Object o))

  root-level : (k : ResourceNo) (o : ObjectNo) (e : End) → holder s.links (node.Object o) ≡ Some e → e.node ≡ node.Resource k → HasLevel o
  root-level k o e h is q at =
      let path = ap (λ (x : Path). length x.steps) (same_Some _ q (sym (path-root s legal o e k h is) ∙ at)) in
      let one = above-one o e h ∙ ap (λ (n : Node). suc (length (above s.links n))) is in
      let none = above-none k in
      omega (arith, path, one, none)

  part-level : (k : ResourceNo) (o : ObjectNo) (e : End) (p : ObjectNo) → holder s.links (node.Object o) ≡ Some e → e.node ≡ node.Object p → resource_of (reading s).above p ≡ Some k → HasLevel p → HasLevel o
  part-level k o e p h is inside up q at =
      let t = step_into (reading s) e o in
      let over = path_in (reading s) p in
      let path = path-part s legal o e p h is ∙ ap (option_map (λ x. with_step x t)) (has-path k p inside) in
      let steps = ap (λ (x : Path). length x.steps) (same_Some (with_step over t) q (sym path ∙ at)) in
      let more = length-append over.steps (t ∷ []) in
      let one = above-one o e h ∙ ap (λ (n : Node). suc (length (above s.links n))) is in
      let high = up over (has-path k p inside) in
      omega (arith, steps, more, one, high)

  ---------------------------------------------------------------- both

  pub placed-object : (k : ResourceNo) (o : ObjectNo) → Contains (objects_in (reading s) k) o → IsPlaced (reading s) k o
  placed-object k o written =
      let r = reading s in
      let inside = written-inside s legal k o written in
      record {
        inside = inside;
        path = has-path k o inside;
        number = position-map (λ (q : Part). same_path (path_in r o) q.path) (same_object o) (part_of r k) (objects_in r k) (λ p c. one-path k o p inside (written-inside s legal k p c));
        level = each-inside s legal HasLevel k (root-level k) (part-level k) o inside (path_in r o) (has-path k o inside);
      }
