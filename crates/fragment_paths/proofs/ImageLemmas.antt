-- Addresses follow from the containments: if the parts of a resource's objects are in another resource at the same positions, under other
-- numbers, those objects have the same paths there, and with one URI the same addresses.
use Rattle.std.proofs.Common.{◌≡◌, ◌∙◌, ℕ, true, List, [], Some, None, length, nat_eq, option_map, slice_get, refl, sym, ap}
use Rattle.std.specs.Prelude.{option_and_then, if◌then◌else◌}
use Rattle.mm_types.specs.Lookups as lookups
use Rattle.mm_types.specs.Resolved.{Metamodel}
use Rattle.mm_types.specs.Shapes.{is_containment, shape}
use Rattle.mm_types.specs.declared.end.End.{End}
use Rattle.mm_types.specs.declared.numbers.Node.TheVariants as node
use Rattle.mm_types.specs.declared.numbers.ObjectNo.{ObjectNo}
use Rattle.mm_types.specs.declared.numbers.ResourceNo.{ResourceNo}
use Rattle.mm_types.specs.declared.value.Value.{Value}
use Rattle.mm_types.specs.declared.value.Value.TheVariants as value
use Rattle.mm_values.specs.Values.{ValuesState}
use Rattle.web_uris.specs.Addresses.{address_text}
use Rattle.web_uris.specs.Paths.{new_path, new_step, path_text, with_step}
use Rattle.web_uris.specs.declared.path.Path.{Path}
use Rattle.web_uris.specs.declared.path.Step.{Step}
use Rattle.links.specs.Holders.{above, holder}
use Rattle.links.specs.Links.{Links}
use Rattle.models.specs.Legal.{IsLegal}
use Rattle.models.specs.Model.{Model, model_of, reading, values_at}
use Rattle.models.specs.Reading.{at_end}
use Rattle.containment.proofs.PartLemmas.{holder-at, values-linked}
use Rattle.containment.specs.Above.{resource_of}
use Rattle.fragment_paths.proofs.HeldLemmas.{held, held-root}
use Rattle.fragment_paths.proofs.UpLemmas.{path-part, path-root, resource-part, resource-root}
use Rattle.fragment_paths.specs.Laws.{HasImagesOfParts, HasImagesOfRoots, IsImageAt}
use Rattle.fragment_paths.specs.Fragments.{address, fragment, has_one_root, path_of, position_in, step_into}
use Rattle.fragment_paths.proofs.InsideLemmas.{contents-contains, each-inside}

-- the path of a part, by its position
pub same-noted : (s : Model) → IsLegal s → (o : ObjectNo) (e : End) (i : ℕ) → is_containment s.metamodel e.feature ≡ true → slice_get (values_at s e) i ≡ Some (value.Object o) → position_in (reading s) e o ≡ i
same-noted s legal o e i contains at =
    let h = held s legal o e (holder-at s legal e.node e.feature contains i o at) in
    let linked = values-linked s e h.reference in
    let p = position_in (reading s) e o in
    legal.links.set.placed.distinct e p i (value.Object o) (ap (λ (vs : List Value). slice_get vs p) (sym linked) ∙ h.here) (ap (λ (vs : List Value). slice_get vs i) (sym linked) ∙ at)

module _ (m : Metamodel) (v w : ValuesState) (a b : Links) (legal : IsLegal (model_of m v a)) (other : IsLegal (model_of m w b)) (k j : ResourceNo) (image : ObjectNo → ObjectNo)
    (tops : HasImagesOfRoots m v w a b k j image) (parts : HasImagesOfParts m v w a b k image) where
  abbrev s : Model
  s = model_of m v a

  abbrev t : Model
  t = model_of m w b

  abbrev IsAtPath : ObjectNo → Type 0
  IsAtPath = IsImageAt m v w a b j image

  at-root : (o : ObjectNo) (e : End) → holder a (node.Object o) ≡ Some e → e.node ≡ node.Resource k → IsAtPath o
  at-root o e h is =
      let there = held s legal o e h in
      let p = position_in (reading s) e o in
      let d : End = at_end (node.Resource j) (lookups.contents m) in
      let at = tops p o (sym (ap (λ (x : End). slice_get (values_at s x) p) (held-root s legal o e k there is).0) ∙ there.here) in
      let up = holder-at t other (node.Resource j) (lookups.contents m) (contents-contains m) p (image o) at in
      record {
        inside = resource-root t other (image o) d j up refl;
        path = path-root t other (image o) d j up refl ∙ ap (λ (i : ℕ). Some (new_path i [])) (same-noted t other (image o) d p (contents-contains m) at) ∙ sym (path-root s legal o e k h is);
      }

  at-part : (o : ObjectNo) (e : End) (p : ObjectNo) → holder a (node.Object o) ≡ Some e → e.node ≡ node.Object p → resource_of (above a) p ≡ Some k → IsAtPath p → IsAtPath o
  at-part o e p h is within up =
      let f = e.feature in
      let there = held s legal o e h in
      let q = position_in (reading s) e o in
      let own : e ≡ at_end (node.Object p) f = λ i. record { node = is i; feature = f } in
      let d : End = at_end (node.Object (image p)) f in
      let at = parts p f q o within there.contains (sym (ap (λ (x : End). slice_get (values_at s x) q) own) ∙ there.here) in
      let over = holder-at t other (node.Object (image p)) f there.contains q (image o) at in
      let step : step_into (reading t) d (image o) ≡ step_into (reading s) e o =
      ap (λ (i : ℕ). new_step (lookups.feature_name m f) (if (shape m f).is_single then None else Some i)) (same-noted t other (image o) d q there.contains at) in
      record {
        inside = resource-part t other (image o) d (image p) over refl ∙ up.inside;
        path = path-part t other (image o) d (image p) over refl ∙ ap (option_map (λ (x : Path). with_step x (step_into (reading t) d (image o)))) up.path
            ∙ ap (λ (y : Step). option_map (λ (x : Path). with_step x y) (path_of (reading s) p)) step ∙ sym (path-part s legal o e p h is);
      }

  pub path-image : (o : ObjectNo) → resource_of (above a) o ≡ Some k → IsAtPath o
  path-image o inside = each-inside s legal IsAtPath k at-root at-part o inside

  -- if the resources have the same number of roots, the part has the same fragment
  module _ (count : length (values_at (model_of m w b) (at_end (node.Resource j) (lookups.contents m))) ≡ length (values_at (model_of m v a) (at_end (node.Resource k) (lookups.contents m)))) where
    one-root : has_one_root (reading t) j ≡ has_one_root (reading s) k
    one-root = ap (λ (n : ℕ). nat_eq n 1) count

    pub fragment-image : (o : ObjectNo) → resource_of (above a) o ≡ Some k → fragment (reading t) (image o) ≡ fragment (reading s) o
    fragment-image o inside =
        let at = path-image o inside in
        ap (option_and_then (λ (i : ResourceNo). option_map (path_text (has_one_root (reading t) i)) (path_of (reading t) (image o)))) at.inside
        ∙ (λ i. option_map (path_text (one-root i)) (at.path i))
        ∙ sym (ap (option_and_then (λ (i : ResourceNo). option_map (path_text (has_one_root (reading s) i)) (path_of (reading s) o))) inside)

    -- if the resources have the same URI, the part has the same address
    pub address-image : slice_get w.uris j.0 ≡ slice_get v.uris k.0 → (o : ObjectNo) → resource_of (above a) o ≡ Some k → address (reading t) (image o) ≡ address (reading s) o
    address-image uris o inside =
        let at = path-image o inside in
        ap (option_and_then (λ (i : ResourceNo). option_and_then (λ u. option_map (address_text u) (fragment (reading t) (image o))) (slice_get w.uris i.0))) at.inside
        ∙ (λ i. option_and_then (λ u. option_map (address_text u) (fragment-image o inside i)) (uris i))
        ∙ sym (ap (option_and_then (λ (i : ResourceNo). option_and_then (λ u. option_map (address_text u) (fragment (reading s) o)) (slice_get v.uris i.0))) inside)
