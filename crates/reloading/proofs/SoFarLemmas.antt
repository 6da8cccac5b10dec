-- The model between loads: it has the resources that were made, the images of the objects that were loaded, and nothing else.
use Rattle.std.proofs.Common.{◌≡◌, ◌∙◌, ℕ, zero, suc, ◌<◌, Bool, true, false, ◌||◌, cond, List, [], ◌∷◌, Option, Some, flat_map, length, map, option_map, slice_get, unwrap_or, eq-eqb, eqb-true, refl, sym, ap}
use Rattle.std.specs.Prelude.{position}
use Rattle.std.specs.List.{IsDistinct}
use Rattle.std.proofs.lemmas.Bool.{false≢true}
use Rattle.std.proofs.lemmas.Option.{none-some, same_Some}
use Rattle.mm_types.specs.declared.numbers.FeatureNo.{FeatureNo}
use Rattle.mm_types.specs.declared.numbers.Node.TheVariants as node
use Rattle.mm_types.specs.declared.numbers.ObjectNo.{ObjectNo}
use Rattle.mm_types.specs.declared.numbers.ResourceNo.{ResourceNo}
use Rattle.mm_values.specs.Values.{ValuesState}
use Rattle.links.specs.Links.{Links}
use Rattle.models.specs.Legal.{IsLegal}
use Rattle.models.specs.Model.{Model, model_of, reading}
use Rattle.models.specs.Reading.{Reading, at_end, has_resource, roots_end}
use Rattle.containment.specs.Above.{resource_of}
use Rattle.fragment_paths.specs.Fragments.{address}
use Rattle.doc_writer.specs.Written.{objects_in}
use Rattle.doc_parts.proofs.WayLemmas.{position_cons}
use Rattle.reloading.specs.Images.{image, value_image}
use Rattle.reloading.specs.Orders.{has, is_same, number_of, uri_of}

---------------------------------------------------------------- numbers of resources

-- a resource of the list is at the number that it got
pub record IsNumbered (made : List ResourceNo) (k : ResourceNo) : Type 0 where
  pub found : position (is_same k) made ≡ Some (number_of made k).0
  pub there : slice_get made (number_of made k).0 ≡ Some k

same-resource : (k j : ResourceNo) → is_same k j ≡ true → k ≡ j
same-resource k j same = λ i. record { 0 = eqb-true k.0 j.0 same i }

found-at : (made : List ResourceNo) (k : ResourceNo) → has made k ≡ true → (i : ℕ) × (position (is_same k) made ≡ Some i) × (slice_get made i ≡ Some k)
found-at [] k h = absurd (false≢true h)
found-at (j ∷ js) k h =
    elim (is_same k j) as (λ b. is_same k j ≡ b → (b || has js k) ≡ true → (i : ℕ) × (position (is_same k) (j ∷ js) ≡ Some i) × (slice_get (j ∷ js) i ≡ Some k)) [
      | true ↦ λ same _. (0, position_cons (is_same k) j js ∙ ap (λ (b : Bool). cond b (Some 0) (option_map suc (position (is_same k) js))) same, ap (λ (x : ResourceNo). Some x) (sym (same-resource k j same)))
      | false ↦ λ other later.
          let rest = found-at js k later in
          (suc rest.0, position_cons (is_same k) j js ∙ (λ i. cond (other i) (Some 0) (option_map suc (rest.1 i))), rest.2)
    ] refl h

pub numbered : (made : List ResourceNo) (k : ResourceNo) → has made k ≡ true → IsNumbered made k
numbered made k h =
    let at = found-at made k h in
    let own : at.0 ≡ (number_of made k).0 = sym (ap (λ (x : Option ℕ). unwrap_or x 0) at.1) in
    record { found = at.1 ∙ ap (λ (i : ℕ). Some i) own; there = ap (slice_get made) (sym own) ∙ at.2 }

-- the resource at an index is in the list
pub among : (made : List ResourceNo) (i : ℕ) (k : ResourceNo) → slice_get made i ≡ Some k → has made k ≡ true
among [] i k at = absurd (none-some k at)
among (j ∷ js) zero k at = ap (λ (b : Bool). b || has js k) (eq-eqb k.0 j.0 (ap (λ (x : ResourceNo). x.0) (sym (same_Some j k at))))
among (j ∷ js) (suc i) k at = ap (λ (b : Bool). is_same k j || b) (among js i k at) ∙ or-true (is_same k j)
  where
    or-true : (b : Bool) → (b || true) ≡ true
    or-true true = refl
    or-true false = refl

---------------------------------------------------------------- copies

-- the objects of resource k of r have images in t, from the number n on, with the same values, in resource j
pub record IsCopied (r : Reading) (k j : ResourceNo) (n : ℕ) (t : Reading) : Type 0 where
  pub classes : (o : ObjectNo) → resource_of r.above o ≡ Some k → t.class (image r k n o) ≡ r.class o
  pub values : (o : ObjectNo) (f : FeatureNo) → resource_of r.above o ≡ Some k → t.values (at_end (node.Object (image r k n o)) f) ≡ map (value_image r k n) (r.values (at_end (node.Object o) f))
  pub flags : (o : ObjectNo) (f : FeatureNo) → resource_of r.above o ≡ Some k → t.flag (at_end (node.Object (image r k n o)) f) ≡ r.flag (at_end (node.Object o) f)
  pub roots : t.values (roots_end t j) ≡ map (value_image r k n) (r.values (roots_end r k))
  pub addresses : (o : ObjectNo) → resource_of r.above o ≡ Some k → address t (image r k n o) ≡ address r o
  pub below : (o : ObjectNo) → resource_of r.above o ≡ Some k → (image r k n o).0 < t.next

-- an object of t is the image of an object of a resource that was loaded
pub record IsImageOf (r : Reading) (filled : List ResourceNo) (base : ResourceNo → ℕ) (p : ObjectNo) : Type 0 where
  pub resource : ResourceNo
  pub loaded : has filled resource ≡ true
  pub object : ObjectNo
  pub inside : resource_of r.above object ≡ Some resource
  pub is : p ≡ image r resource (base resource) object

-- the model after some resources of s were made, in this order, and some of these were loaded, from these numbers on
pub record HasSoFar (s : Model) (w : ValuesState) (b : Links) (made filled : List ResourceNo) : Type 0 where
  pub legal : IsLegal (model_of s.metamodel w b)
  pub uris : w.uris ≡ map (uri_of (reading s)) made
  pub once : IsDistinct is_same made
  pub there : (k : ResourceNo) → has made k ≡ true → has_resource (reading s) k ≡ true
  pub filled_once : IsDistinct is_same filled
  pub filled_made : (k : ResourceNo) → has filled k ≡ true → has made k ≡ true
  pub empty : (k : ResourceNo) → has made k ≡ true → has filled k ≡ false → (reading (model_of s.metamodel w b)).values (roots_end (reading s) (number_of made k)) ≡ []
  pub base : ResourceNo → ℕ
  pub copies : (k : ResourceNo) → has filled k ≡ true → IsCopied (reading s) k (number_of made k) (base k) (reading (model_of s.metamodel w b))
  pub only : (p : ObjectNo) → p.0 < length w.objects → IsImageOf (reading s) filled base p
  pub count : length w.objects ≡ length (flat_map (objects_in (reading s)) filled)
