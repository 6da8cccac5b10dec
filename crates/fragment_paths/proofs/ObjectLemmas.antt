-- The containment ends of a legal model have only objects.
use Rattle.std.proofs.Common.{◌≡◌, ◌&&◌, not, ℕ, zero, suc, Bool, true, false, IsTrue, List, [], ◌∷◌, slice_get, Option, Some, None, is_some, option_and_then, if◌then◌else◌, refl, sym, ap, ◌∙◌}
use Rattle.std.specs.List.{list_all}
use Rattle.std.proofs.lemmas.Bool.{and_parts, false≢true}
use Rattle.std.proofs.lemmas.Option.{none-some, same_Some}
use Rattle.std.proofs.Math.Bool.{and-false}
use Rattle.mm_types.specs.Lookups as lookups
use Rattle.mm_types.specs.Lookups.{is_object}
use Rattle.mm_types.specs.Resolved.{Metamodel}
use Rattle.mm_types.specs.Shapes.{is_containment, shape}
use Rattle.mm_types.specs.declared.end.End.{End}
use Rattle.mm_types.specs.declared.numbers.ClassNo.{ClassNo}
use Rattle.mm_types.specs.declared.numbers.FeatureNo.{FeatureNo}
use Rattle.mm_types.specs.declared.numbers.ObjectNo.{ObjectNo}
use Rattle.mm_types.specs.declared.value.Value.{Value}
use Rattle.mm_types.specs.declared.value.Value.TheVariants as value
use Rattle.links.specs.Links.{end}
use Rattle.models.specs.Legal.{IsLegal, is_legal_end, is_legal_target, takes_proxies}
use Rattle.models.specs.Model.{Model, reading, values_at}
use Rattle.models.specs.Reading.{Reading, object_of, objects_of}
use Rattle.web_uris.specs.declared.path.Step.{Step}
use Rattle.fragment_paths.specs.Finding.{feature_of, goes_by, if_goes_by}
use Rattle.containment.proofs.PartLemmas.{contains-itself, contains-reference, values-linked}

-- what contains takes no proxies
no-proxies : (m : Metamodel) (f : FeatureNo) → is_containment m f ≡ true → takes_proxies (shape m f) ≡ false
no-proxies m f contains =
    let a = shape m f in
    ap (λ (x : Option FeatureNo). a.is_reference && not (is_some x)) (contains-itself f a.containing contains) ∙ and-false a.is_reference

one-of : (r : Reading) (f : FeatureNo) (v : Value) → takes_proxies (shape r.metamodel f) ≡ false → is_legal_target r f v ≡ true → is_object v ≡ true
one-of r f (value.Object o) none h = refl
one-of r f (value.Proxy t) none h = sym none ∙ h
one-of r f _ none h = h

all-of : (r : Reading) (e : End) (vs : List Value) → takes_proxies (shape r.metamodel e.feature) ≡ false → list_all (is_legal_target r e.feature) vs ≡ true → list_all is_object vs ≡ true
all-of r e [] none h = refl
all-of r e (v ∷ vs) none h =
    let both = and_parts (is_legal_target r e.feature v) (list_all (is_legal_target r e.feature) vs) h in
    rw (one-of r e.feature v none both.0) (all-of r e vs none both.1)

all-at : (r : Reading) (e : End) (vs : List Value) → takes_proxies (shape r.metamodel e.feature) ≡ false → IsTrue (is_legal_end r e vs) → list_all is_object vs ≡ true
all-at r e [] none h = refl
all-at r e (v ∷ vs) none h = all-of r e (v ∷ vs) none (and_parts _ _ (and_parts _ _ h).1).0

-- a containment end has only objects
pub all-objects : (s : Model) (e : End) → IsLegal s → is_containment s.metamodel e.feature ≡ true → list_all is_object (values_at s e) ≡ true
all-objects s e legal contains =
    let reference = contains-reference s.metamodel e.feature e.feature (contains-itself e.feature (shape s.metamodel e.feature).containing contains) in
    ap (list_all is_object) (values-linked s e reference) ∙ all-at (reading s) e (end s.links e) (no-proxies s.metamodel e.feature contains) (legal.links.ends e)

-- a step leads through a containment reference
pub by-containment : (r : Reading) (o : ObjectNo) (t : Step) (f : FeatureNo) → feature_of r o t ≡ Some f → is_containment r.metamodel f ≡ true
by-containment r o t f = by_class (r.class o)
  where
    by_test : (g : FeatureNo) (b : Bool) → goes_by r t g ≡ b → (if b then Some g else None) ≡ Some f → is_containment r.metamodel f ≡ true
    by_test g true goes is = ap (λ (h : FeatureNo). is_containment r.metamodel h) (sym (same_Some g f is)) ∙ (and_parts (is_containment r.metamodel g) _ goes).0
    by_test g false goes is = absurd (none-some f is)

    by_name : (x : Option FeatureNo) → option_and_then (if_goes_by r t) x ≡ Some f → is_containment r.metamodel f ≡ true
    by_name None h = absurd (none-some f h)
    by_name (Some g) h = by_test g (goes_by r t g) refl h

    by_class : (x : Option ClassNo) → option_and_then (λ (c : ClassNo). option_and_then (if_goes_by r t) (lookups.feature_by_name r.metamodel c t.name)) x ≡ Some f → is_containment r.metamodel f ≡ true
    by_class None h = absurd (none-some f h)
    by_class (Some c) h = by_name (lookups.feature_by_name r.metamodel c t.name) h

-- if a list has only objects, an object has the same position among the objects as among the values
pub objects-get : (vs : List Value) (k : ℕ) → list_all is_object vs ≡ true → option_and_then object_of (slice_get vs k) ≡ slice_get (objects_of vs) k
objects-get [] k all = refl
objects-get (value.Object o ∷ vs) zero all = refl
objects-get (value.Object o ∷ vs) (suc k) all = objects-get vs k all
objects-get (v ∷ vs) k all = absurd (false≢true all)
