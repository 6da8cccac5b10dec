-- The position of an object in its holder, and the step that leads from there to the object.
use Rattle.std.proofs.Common.{◌≡◌, ℕ, ◌<◌, ◌≤◌, ◌&&◌, Bool, true, false, not, List, length, slice_get, Option, Some, None, option_to_list, unwrap_or, if◌then◌else◌, arith, refl, sym, ap, ◌∙◌}
use Rattle.std.specs.Prelude.{IfSome, is_some, option_and_then}
use Rattle.std.specs.Option.{option_map_or}
use Rattle.std.proofs.lemmas.Bool.{and_parts, eq-eqb, eqb-true, false≢true}
use Rattle.std.proofs.lemmas.Option.{slice_get_within}
use Rattle.mm_types.specs.Ends.{first_in, index_in}
use Rattle.mm_types.specs.Lookups as lookups
use Rattle.mm_types.specs.Same.{is_feature}
use Rattle.mm_types.specs.Shapes.{is_containment, shape}
use Rattle.mm_types.specs.declared.end.End.{End}
use Rattle.mm_types.specs.declared.numbers.ClassNo.{ClassNo}
use Rattle.mm_types.specs.declared.numbers.FeatureNo.{FeatureNo}
use Rattle.mm_types.specs.declared.numbers.Node.{Node}
use Rattle.mm_types.specs.declared.numbers.Node.TheVariants as node
use Rattle.mm_types.specs.declared.numbers.ObjectNo.{ObjectNo}
use Rattle.mm_types.specs.declared.numbers.ResourceNo.{ResourceNo}
use Rattle.mm_types.specs.declared.value.Value.{Value}
use Rattle.mm_types.specs.declared.value.Value.TheVariants as value
use Rattle.links.proofs.HolderLemmas.{holder-some, indexed_held}
use Rattle.links.specs.Holders.{holder}
use Rattle.links.specs.Links.{end}
use Rattle.models.specs.Legal.{IsLegal, kinds_of}
use Rattle.models.specs.Model.{Model, reading, values_at}
use Rattle.models.specs.Reading.{at_end, has_feature, has_resource, object_of, objects_of, roots_end}
use Rattle.models.proofs.EndLemmas.{values-single}
use Rattle.models.proofs.PlaceLemmas.{has-at, index-at, values-few}
use Rattle.containment.proofs.HolderLemmas.{container_at, holding_end-feature}
use Rattle.containment.proofs.PartLemmas.{contains-reference, kinds-are, legal-at, values-linked}
use Rattle.web_uris.specs.Paths.{IsWritten}
use Rattle.fragment_paths.specs.Finding.{feature_of, goes_by, if_goes_by, object_after_step, roots}
use Rattle.fragment_paths.specs.Fragments.{has_one_root, position_in, step_into}
use Rattle.mm_meta.proofs.OwnNameLemmas.{own-name, valid-feature}
use Rattle.fragment_paths.proofs.ObjectLemmas.{all-objects, objects-get}

-- the end is one of a containment reference of its node, and the object is there, at its position
pub record IsHeld (s : Model) (o : ObjectNo) (e : End) : Type 0 where
  pub reference : (shape s.metamodel e.feature).is_reference ≡ true
  pub contains : is_containment s.metamodel e.feature ≡ true
  pub own : has_feature (reading s) e.node e.feature ≡ true
  pub here : slice_get (values_at s e) (position_in (reading s) e o) ≡ Some (value.Object o)
  pub low : position_in (reading s) e o < length (values_at s e)
  pub few : length (values_at s e) ≤ 1000000

noted-at : (vs : List Value) (v : Value) (k : ℕ) → slice_get vs k ≡ Some v → slice_get vs (unwrap_or (first_in vs v) 0) ≡ Some v
noted-at vs v k at =
    let there = has-at vs v k at in
    ap (λ (b : Bool). slice_get vs (unwrap_or (if b then Some (index_in vs v) else None) 0)) there ∙ index-at vs v there

few-values : (xs : List Value) (x : Option Value) → xs ≡ option_to_list x → length xs ≤ 1
few-values xs None is = let long = ap (λ (ys : List Value). length ys) is in omega (arith, long)
few-values xs (Some v) is = let long = ap (λ (ys : List Value). length ys) is in omega (arith, long)

module _ (s : Model) (legal : IsLegal s) where
  pub held : (o : ObjectNo) (e : End) → holder s.links (node.Object o) ≡ Some e → IsHeld s o e
  held o e h =
      let m = s.metamodel in
      let l = holder-some s.links (node.Object o) e h in
      let at = indexed_held l.0 (node.Object o) e (legal.links.set.placed.sides l.0 l.1) l.2 in
      let there = (legal.links.set.placed.ends e).has at.0 (value.Object o) (l.0, l.1, at.1) in
      let by = holding_end-feature l.0 (node.Object o) e l.2 in
      let whose : (shape m e.feature).containing ≡ Some by.0 = sym (container_at (kinds_of m) (kinds-are m legal.metamodel) l.0 e (at.0, value.Object o) (legal.links.kinds l.0 l.1) at.1) ∙ by.1 in
      let refers = contains-reference m e.feature by.0 whose in
      let placed = noted-at (values_at s e) (value.Object o) at.0 (ap (λ (vs : List Value). slice_get vs at.0) (values-linked s e refers) ∙ there) in
      record {
        reference = refers;
        contains = ap (is_feature e.feature) whose ∙ eq-eqb e.feature.0 by.0.0 by.2;
        own = (legal-at (reading s) e (end s.links e) at.0 (value.Object o) (legal.links.ends e) there).0;
        here = placed;
        low = slice_get_within (values_at s e) (position_in (reading s) e o) (value.Object o) placed;
        few = values-few s e legal;
      }

  -- the object is at this position among the objects of the end too
  pub held-object : (o : ObjectNo) (e : End) → IsHeld s o e → slice_get (objects_of (values_at s e)) (position_in (reading s) e o) ≡ Some o
  held-object o e h = sym (objects-get (values_at s e) (position_in (reading s) e o) (all-objects s e legal h.contains)) ∙ ap (λ (x : Option Value). option_and_then object_of x) h.here

  -- in a single end, the object is the first
  single-noted : (o : ObjectNo) (e : End) → IsHeld s o e → (shape s.metamodel e.feature).is_single ≡ true → position_in (reading s) e o ≡ 0
  single-noted o e h single =
      let one = few-values (values_at s e) (slice_get (values_at s e) 0) (values-single s e legal h.reference single) in
      let low = h.low in
      omega arith

  ---------------------------------------------------------------- roots

  -- a resource contains objects in only one end
  pub held-root : (o : ObjectNo) (e : End) (k : ResourceNo) → IsHeld s o e → e.node ≡ node.Resource k → (e ≡ roots_end (reading s) k) × (has_resource (reading s) k ≡ true)
  held-root o e k h is =
      let both = and_parts (has_resource (reading s) k) _ (ap (λ (n : Node). has_feature (reading s) n e.feature) (sym is) ∙ h.own) in
      let same = eqb-true e.feature.0 (lookups.contents s.metamodel).0 both.1 in
      ((λ i. record { node = is i; feature = record { 0 = same i } }), both.0)

  pub root-found : (o : ObjectNo) (e : End) (k : ResourceNo) → IsHeld s o e → e.node ≡ node.Resource k → slice_get (roots (reading s) k) (position_in (reading s) e o) ≡ Some o
  root-found o e k h is = ap (λ (d : End). slice_get (objects_of (values_at s d)) (position_in (reading s) e o)) (sym (held-root o e k h is).0) ∙ held-object o e h

  -- the only root of a resource is the first
  pub one-root : (o : ObjectNo) (e : End) (k : ResourceNo) → IsHeld s o e → e.node ≡ node.Resource k → has_one_root (reading s) k ≡ true → position_in (reading s) e o ≡ 0
  one-root o e k h is one =
      let count = eqb-true (length (values_at s (roots_end (reading s) k))) 1 one in
      let same = ap (λ (d : End). length (values_at s d)) (held-root o e k h is).0 in
      let low = h.low in
      omega arith

  ---------------------------------------------------------------- steps

  class-has : (p : ObjectNo) (f : FeatureNo) → has_feature (reading s) (node.Object p) f ≡ true → (c : ClassNo) × ((reading s).class p ≡ Some c) × (lookups.has_feature s.metamodel c f ≡ true)
  class-has p f = by ((reading s).class p) refl
    where
      by : (x : Option ClassNo) → (reading s).class p ≡ x → option_map_or (λ c. lookups.has_feature s.metamodel c f) x false ≡ true → (c : ClassNo) × ((reading s).class p ≡ Some c) × (lookups.has_feature s.metamodel c f ≡ true)
      by None is h = absurd (false≢true h)
      by (Some c) is h = (c, is, h)

  goes : (o : ObjectNo) (e : End) → IsHeld s o e → goes_by (reading s) (step_into (reading s) e o) e.feature ≡ true
  goes o e h =
      let noted = position_in (reading s) e o in
      let index = λ (b : Bool). (if b then None else Some noted) in
      ap (λ (c : Bool). c && (if (shape s.metamodel e.feature).is_single then not (is_some (index (shape s.metamodel e.feature).is_single)) else is_some (index (shape s.metamodel e.feature).is_single))) h.contains
      ∙ elim (shape s.metamodel e.feature).is_single as (λ b. (if b then not (is_some (index b)) else is_some (index b)) ≡ true) [ true ↦ refl | false ↦ refl ]

  index-is : (o : ObjectNo) (e : End) → IsHeld s o e → unwrap_or (step_into (reading s) e o).index 0 ≡ position_in (reading s) e o
  index-is o e h =
      elim (shape s.metamodel e.feature).is_single as (λ b. (shape s.metamodel e.feature).is_single ≡ b → unwrap_or (if b then None else Some (position_in (reading s) e o)) 0 ≡ position_in (reading s) e o) [
        | true ↦ λ single. sym (single-noted o e h single)
        | false ↦ λ _. refl
      ] refl

  -- the step into an object leads to it
  pub step-found : (o : ObjectNo) (e : End) (p : ObjectNo) → IsHeld s o e → e.node ≡ node.Object p → object_after_step (reading s) p (step_into (reading s) e o) ≡ Some o
  step-found o e p h is =
      let r = reading s in
      let t = step_into r e o in
      let c = class-has p e.feature (ap (λ (n : Node). has_feature r n e.feature) (sym is) ∙ h.own) in
      let named = own-name s.metamodel legal.metamodel c.0 e.feature c.2 in
      let by : feature_of r p t ≡ Some e.feature =
      ap (option_and_then (λ (k : ClassNo). option_and_then (if_goes_by r t) (lookups.feature_by_name s.metamodel k t.name))) c.1
      ∙ ap (option_and_then (if_goes_by r t)) named
      ∙ ap (λ (b : Bool). if b then Some e.feature else None) (goes o e h) in
      let same : at_end (node.Object p) e.feature ≡ e = λ i. record { node = sym is i; feature = e.feature } in
      ap (option_and_then (λ (f : FeatureNo). slice_get (objects_of (values_at s (at_end (node.Object p) f))) (unwrap_or t.index 0))) by
      ∙ ap (λ (d : End). slice_get (objects_of (values_at s d)) (unwrap_or t.index 0)) same
      ∙ ap (λ (k : ℕ). slice_get (objects_of (values_at s e)) k) (index-is o e h)
      ∙ held-object o e h

  -- the step into an object can be written
  pub step-written : (o : ObjectNo) (e : End) (p : ObjectNo) → IsHeld s o e → e.node ≡ node.Object p → IsWritten (step_into (reading s) e o)
  step-written o e p h is =
      let r = reading s in
      let c = class-has p e.feature (ap (λ (n : Node). has_feature r n e.feature) (sym is) ∙ h.own) in
      let low = h.low in
      let few = h.few in
      (valid-feature s.metamodel legal.metamodel c.0 e.feature c.2, within (shape s.metamodel e.feature).is_single (position_in r e o) (omega arith))
    where
      within : (b : Bool) (i : ℕ) → i < 10000000 → IfSome (if b then None else Some i) (λ j. j < 10000000)
      within true i low = tt
      within false i low = low
