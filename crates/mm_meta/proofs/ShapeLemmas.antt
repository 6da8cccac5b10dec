-- The shapes of references in a metamodel of a document: their opposites, containments, and the objects that they take.
use Rattle.std.proofs.Common.{◌≡◌, ◌∙◌, ◌⊎◌, Bool, true, false, cond, Option, Some, None, ⊎_elim, inl, inr, ap, arith, length, refl, sym}
use Rattle.std.specs.Prelude.{option_and_then}
use Rattle.std.specs.Option.{option_map_or}
use Rattle.std.proofs.lemmas.Option.{slice_get_cases, slice_get_within}
use Rattle.mm_types.specs.Lookups.{conforms, contents, feature, has_feature, is_containment_kind, is_container, is_live_object, is_of_kind, is_single, kind_opposite, opposite, takes}
use Rattle.mm_types.specs.OfDocument.{IsOfDocument}
use Rattle.mm_types.specs.Resolved.{Metamodel}
use Rattle.mm_types.specs.Shapes.{Shape, contents_shape, shape, shape_of}
use Rattle.mm_types.specs.declared.feature.Feature.{Feature}
use Rattle.mm_types.specs.declared.feature.Kind.{Kind}
use Rattle.mm_types.specs.declared.feature.Kind.TheVariants.{Attribute, Reference}
use Rattle.mm_types.specs.declared.numbers.ClassNo.{ClassNo}
use Rattle.mm_types.specs.declared.numbers.FeatureNo.{FeatureNo}
use Rattle.mm_types.specs.declared.numbers.ObjectNo.{ObjectNo}
use Rattle.mm_types.specs.declared.value.Value.TheVariants.{Object}
use Rattle.mm_meta.specs.Laws.{ContainingIsKnown, FarTypesFit, IsContainerOf, IsPair, OppositesArePairs, TakesWhatHasTheOpposite, class_has}
use Rattle.mm_meta.proofs.ConformLemmas.{owner_tells}
use Rattle.mm_meta.proofs.PairLemmas.{AreOpposites, opposite_is, pair_of}

kind_shape : (m : Metamodel) (f : FeatureNo) (x : Feature) (k : Kind) → (shape_of m f x k).opposite ≡ kind_opposite k
kind_shape m f x (Attribute t unique unsettable default) = refl
kind_shape m f x (Reference target containment opposite) = refl

pub shape_opposite : (m : Metamodel) (f : FeatureNo) → (shape m f).opposite ≡ opposite m f
shape_opposite m f = by (feature m f)
  where
    by : (o : Option Feature) → (option_map_or (λ x. shape_of m f x x.kind) o (contents_shape m)).opposite ≡ option_and_then (λ x. kind_opposite x.kind) o
    by None = refl
    by (Some x) = kind_shape m f x x.kind

shape_at : (m : Metamodel) (f : FeatureNo) (x : Feature) (k : Kind) → feature m f ≡ Some x → x.kind ≡ k → shape m f ≡ shape_of m f x k
shape_at m f x k here is = ap (λ (o : Option Feature). option_map_or (λ x. shape_of m f x x.kind) o (contents_shape m)) here ∙ ap (shape_of m f x) is

abbrev turned : (m : Metamodel) (f g : FeatureNo) → AreOpposites m f g → AreOpposites m g f
turned m f g p = record {
  near = p.far;
  far = p.near;
  near_contains = p.far_contains;
  far_contains = p.near_contains;
  near_here = p.far_here;
  far_here = p.near_here;
  near_kind = p.far_kind;
  far_kind = p.near_kind;
  apart = λ e. p.apart (sym e);
  one_contains = λ a b. p.one_contains b a;
  near_single = p.far_single;
  far_single = p.near_single;
}

near_shape : (m : Metamodel) (f g : FeatureNo) (p : AreOpposites m f g) → shape m f ≡ shape_of m f p.near (Reference p.far.owner p.near_contains (Some g))
near_shape m f g p = shape_at m f p.near (Reference p.far.owner p.near_contains (Some g)) p.near_here p.near_kind

-- a reference is a container reference if its opposite is a containment
container_is : (m : Metamodel) (f g : FeatureNo) (p : AreOpposites m f g) → is_container m f ≡ p.far_contains
container_is m f g p =
    ap (λ (o : Option FeatureNo). option_map_or (λ x. is_containment_kind x.kind) (option_and_then (feature m) o) false) (opposite_is m f g p)
    ∙ (ap (λ (o : Option Feature). option_map_or (λ x. is_containment_kind x.kind) o false) p.far_here ∙ ap is_containment_kind p.far_kind)

containing_is : (m : Metamodel) (f g : FeatureNo) (p : AreOpposites m f g) → (shape m f).containing ≡ cond p.near_contains (Some f) (cond p.far_contains (Some g) None)
containing_is m f g p =
    ap (λ (s : Shape). s.containing) (near_shape m f g p) ∙ ap (λ (b : Bool). cond p.near_contains (Some f) (cond b (Some g) None)) (container_is m f g p)

one_of : (a b : Bool) (x y : FeatureNo) → (a ≡ true → b ≡ true → ⊥) → cond a (Some x) (cond b (Some y) None) ≡ cond b (Some y) (cond a (Some x) None)
one_of true true x y not_both = absurd (not_both refl refl)
one_of true false x y not_both = refl
one_of false true x y not_both = refl
one_of false false x y not_both = refl

pair : (m : Metamodel) (f g : FeatureNo) → AreOpposites m f g → IsPair m f g
pair m f g p =
    let back : AreOpposites m g f = turned m f g p in
    record {
      back = shape_opposite m g ∙ opposite_is m g f back;
      apart = p.apart;
      one_containing = containing_is m f g p ∙ (one_of p.near_contains p.far_contains f g p.one_contains ∙ sym (containing_is m g f back));
      near_refers = ap (λ (s : Shape). s.is_reference) (near_shape m f g p);
      far_refers = ap (λ (s : Shape). s.is_reference) (near_shape m g f back);
      near_there = slice_get_within m.features f.0 p.near p.near_here;
      far_there = slice_get_within m.features g.0 p.far p.far_here;
    }

pair_by_shape : (m : Metamodel) → IsOfDocument m → (f g : FeatureNo) → (shape m f).opposite ≡ Some g → AreOpposites m f g
pair_by_shape m d f g is = pair_of m d f g (sym (shape_opposite m f) ∙ is)

pub opposites_are_pairs : (m : Metamodel) → IsOfDocument m → OppositesArePairs m
opposites_are_pairs m d f g is = pair m f g (pair_by_shape m d f g is)

-- the opposite of a container reference is a containment
container : (m : Metamodel) (f h : FeatureNo) → AreOpposites m f h → is_container m f ≡ true → IsContainerOf m f h
container m f h p is =
    let far : p.far_contains ≡ true = sym (container_is m f h p) ∙ is in
    let back : AreOpposites m h f = turned m f h p in
    record {
      opposite = shape_opposite m f ∙ opposite_is m f h p;
      single = ap (λ (s : Shape). s.is_single) (near_shape m f h p) ∙ p.near_single far;
      apart = p.apart;
      contains = containing_is m h f back ∙ ap (λ (b : Bool). cond b (Some h) (cond p.near_contains (Some f) None)) far;
    }

container_cases : (m : Metamodel) (f h : FeatureNo) (containment : Bool) (o : Option FeatureNo) → (is_container m f ≡ true → o ≡ Some h → IsContainerOf m f h)
    → cond containment (Some f) (cond (is_container m f) o None) ≡ Some h → (h ≡ f) ⊎ IsContainerOf m f h
container_cases m f h true o far is = let e : f ≡ h = cc in inl (sym e)
container_cases m f h false o far is =
    elim (is_container m f) as (λ b. is_container m f ≡ b → cond b o None ≡ Some h → (h ≡ f) ⊎ IsContainerOf m f h) [
      | true ↦ λ contained opposite. inr (far contained opposite)
      | false ↦ λ contained none. cc
    ] refl is

containing_of_kind : (m : Metamodel) → IsOfDocument m → (f h : FeatureNo) (x : Feature) (k : Kind) → feature m f ≡ Some x → x.kind ≡ k → (shape_of m f x k).containing ≡ Some h
    → (h ≡ f) ⊎ IsContainerOf m f h
containing_of_kind m d f h x (Attribute t unique unsettable default) here kind is = cc
containing_of_kind m d f h x (Reference target containment o) here kind is =
    container_cases m f h containment o
    (λ contained opposite.
    container m f h (pair_of m d f h (ap (option_and_then (λ (y : Feature). kind_opposite y.kind)) here ∙ (ap kind_opposite kind ∙ opposite))) contained)
    is

pub containing_is_known : (m : Metamodel) → IsOfDocument m → ContainingIsKnown m
containing_is_known m d f h there is = ⊎_elim
    (λ s. let here : feature m f ≡ Some s.0 = s.2 in containing_of_kind m d f h s.0 s.0.kind here refl (sym (ap (λ (s : Shape). s.containing) (shape_at m f s.0 s.0.kind here refl)) ∙ is))
    (λ n.
    let none : feature m f ≡ None = n.1 in
    let past = n.0 in
    let number : length m.features ≡ f.0 = omega arith in
    let here : (shape m f).containing ≡ Some (contents m) = ap (λ (o : Option Feature). (option_map_or (λ x. shape_of m f x x.kind) o (contents_shape m)).containing) none in
    let same : h ≡ contents m = cc in
    inl (same ∙ (λ i. record { 0 = number i })))
    (slice_get_cases m.features f.0).1

takes_by_class : (m : Metamodel) → IsOfDocument m → (g : FeatureNo) (far : Feature) → feature m g ≡ Some far → (o : Option ClassNo)
    → option_map_or (λ c. conforms m c far.owner) o false ≡ option_map_or (λ c. has_feature m c g) o false
takes_by_class m d g far here None = refl
takes_by_class m d g far here (Some c) = owner_tells m d c g far here

takes_far : (m : Metamodel) → IsOfDocument m → (class_of : ObjectNo → Option ClassNo) (o : ObjectNo) (f g : FeatureNo) → AreOpposites m f g
    → takes m class_of f (Object o) ≡ class_has m class_of o g
takes_far m d class_of o f g p =
    ap (λ (x : Option Feature). option_map_or (λ x. is_of_kind m class_of (is_single x) x.kind (Object o)) x (is_live_object class_of (Object o))) p.near_here
    ∙ (ap (λ (k : Kind). is_of_kind m class_of (is_single p.near) k (Object o)) p.near_kind ∙ takes_by_class m d g p.far p.far_here (class_of o))

pub takes_what_has_the_opposite : (m : Metamodel) → IsOfDocument m → TakesWhatHasTheOpposite m
takes_what_has_the_opposite m d class_of o f g is = takes_far m d class_of o f g (pair_by_shape m d f g is)

pub far_types_fit : (m : Metamodel) → IsOfDocument m → FarTypesFit m
far_types_fit m d class_of p o f g is has takes_it =
    let q : AreOpposites m f g = pair_by_shape m d f g is in
    (sym (takes_far m d class_of o f g q) ∙ takes_it, takes_far m d class_of p g f (turned m f g q) ∙ has)
