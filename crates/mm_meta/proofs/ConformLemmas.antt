-- In a metamodel of a document the test of conformance says whether a class conforms to another.
use Rattle.std.proofs.Common.{◌≡◌, ◌∙◌, ◌↔◌, ◌<◌, ℕ, Bool, true, false, List, [], Option, Some, None, ap, arith, get_or, length, map, nat_lt, refl, subst, sym}
use Rattle.std.specs.Bool.{beq}
use Rattle.std.specs.Cmp.{both_ways}
use Rattle.std.specs.Prelude.{slice_get, unwrap_or}
use Rattle.std.specs.Option.{option_eq}
use Rattle.std.proofs.lemmas.Bool.{and_from, and_parts, lt-ltb, ltb-true}
use Rattle.std.proofs.lemmas.List.{length-map}
use Rattle.std.proofs.lemmas.Option.{get_or_from_slice_get, slice_get_within, unwrap_or-slice_get}
use Rattle.mm_types.specs.Graph.{Conforms}
use Rattle.mm_types.specs.Lookups.{ConformsTo, conforms, conforms_within, feature, has_feature, supertypes}
use Rattle.mm_types.specs.OfDocument.{IsOfDocument}
use Rattle.mm_types.specs.Resolved.{Metamodel, graph_of, resolved_metamodel}
use Rattle.mm_types.specs.declared.class.Class.{Class}
use Rattle.mm_types.specs.declared.feature.Feature.{Feature}
use Rattle.mm_types.specs.declared.meta_fault.Condition.TheVariants.{Cycle}
use Rattle.mm_types.specs.declared.meta_fault.Place.TheVariants as place
use Rattle.mm_types.specs.declared.numbers.ClassNo.{ClassNo}
use Rattle.mm_types.specs.declared.numbers.FeatureNo.{FeatureNo}
use Rattle.mm_graph.specs.ConformTable.{IsConformTable}
use Rattle.mm_graph.specs.Order.{HasCycle, InRange}
use Rattle.mm_graph.specs.Sets.{IsSetOf, is_in}
use Rattle.mm_graph.proofs.Found.{conforms_found}
use Rattle.mm_meta.proofs.ClassLemmas.{graph_in_range}
use Rattle.mm_meta.proofs.MetaLemmas.{supertypes_resolved}
use Rattle.mm_meta.proofs.OwnerLemmas.{has_as_owner}

supertypes_are : (m : Metamodel) → (d : IsOfDocument m) → supertypes m ≡ graph_of d.raw.classes
unfolding resolved_metamodel
supertypes_are m d = ap supertypes d.is ∙ supertypes_resolved d.raw.classes

pub supertypes_in_range : (m : Metamodel) → IsOfDocument m → InRange (supertypes m)
supertypes_in_range m d = subst InRange (sym (supertypes_are m d)) (graph_in_range d.raw.classes)

pub supertypes_acyclic : (m : Metamodel) → IsOfDocument m → HasCycle (supertypes m) → ⊥
supertypes_acyclic m d = subst (λ (g : List (List ℕ)). HasCycle g → ⊥) (sym (supertypes_are m d)) (λ cycle. d.well_formed Cycle (place.Class cycle.0) cycle.1)

length-supertypes : (m : Metamodel) → length (supertypes m) ≡ length m.classes
length-supertypes m = length-map m.classes (λ (c : Class). map (λ (s : ClassNo). s.0) c.supers)

-- The test finds a class exactly if the other conforms to it.
pub conforms_is : (m : Metamodel) → IsOfDocument m → (sub sup : ClassNo) → (conforms m sub sup ≡ true) ↔ ConformsTo m sub sup
conforms_is m d sub sup =
    let g : List (List ℕ) = supertypes m in
    let long : length g ≡ length m.classes = length-supertypes m in (
      (λ h.
          let parts = and_parts (nat_lt sub.0 (length m.classes)) (conforms_within g (length m.classes) sub.0 sup.0) h in
          let low : sub.0 < length m.classes = ltb-true sub.0 (length m.classes) parts.0 in
          let found : conforms_within g (length g) sub.0 sup.0 ≡ true = subst (λ (n : ℕ). conforms_within g n sub.0 sup.0 ≡ true) (sym long) parts.1 in
          (low, (conforms_found g (supertypes_in_range m d) (supertypes_acyclic m d) sub.0 sup.0 (omega arith)).0 found)),
      (λ h.
          let low = h.0 in
          let found : conforms_within g (length g) sub.0 sup.0 ≡ true = (conforms_found g (supertypes_in_range m d) (supertypes_acyclic m d) sub.0 sup.0 (omega arith)).1 h.1 in
          and_from (nat_lt sub.0 (length m.classes)) (conforms_within g (length m.classes) sub.0 sup.0) (lt-ltb sub.0 (length m.classes) low)
          (subst (λ (n : ℕ). conforms_within g n sub.0 sup.0 ≡ true) long found)),
    )

says_true : (o : Option Bool) → option_eq beq o (Some true) ≡ unwrap_or o false
says_true None = refl
says_true (Some true) = refl
says_true (Some false) = refl

-- the row of a class says of another class whether the first conforms to it
pub conforms_by_row : (m : Metamodel) → IsOfDocument m → (table : List (List Bool)) → IsConformTable (supertypes m) table → (sub sup : ClassNo) (r : List Bool) → slice_get table sub.0 ≡ Some r
    → option_eq beq (slice_get r sup.0) (Some true) ≡ conforms m sub sup
conforms_by_row m d table t sub sup r is =
    let low : sub.0 < length table = slice_get_within table sub.0 r is in
    let width = t.long in
    let long : length (supertypes m) ≡ length m.classes = length-supertypes m in
    let at : get_or table sub.0 [] ≡ r = get_or_from_slice_get table sub.0 r [] is in
    let set : IsSetOf (Conforms (supertypes m) sub.0) r = subst (IsSetOf (Conforms (supertypes m) sub.0)) at (t.rows sub.0 (omega arith)) in
    let known = conforms_is m d sub sup in
    says_true (slice_get r sup.0)
    ∙ (unwrap_or-slice_get r sup.0 false
    ∙ both_ways (is_in r sup.0) (conforms m sub sup) (λ h. known.1 (omega arith, (set sup.0).0 h)) (λ h. (set sup.0).1 (known.0 h).1))

-- a class has a feature exactly if it conforms to the feature's owner
pub owner_tells : (m : Metamodel) → IsOfDocument m → (c : ClassNo) (f : FeatureNo) (x : Feature) → feature m f ≡ Some x → conforms m c x.owner ≡ has_feature m c f
owner_tells m d c f x here = has_as_owner m d c f x (conforms m c x.owner) here (conforms_is m d c x.owner)
