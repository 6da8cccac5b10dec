-- What is written of an attribute is kept in the object: if nothing is, the attribute is not set.
use Rattle.std.proofs.Common.{◌≡◌, ◌∙◌, ◌&&◌, ℕ, Bool, true, false, IsTrue, List, [], ◌∷◌, not, slice_get, Option, Some, None, option_map, unwrap_or, if◌then◌else◌, refl, sym, ap}
use Rattle.std.specs.List.{list_all}
use Rattle.std.proofs.lemmas.Bool.{and_parts, false≢true}
use Rattle.mm_types.specs.Ends as ends
use Rattle.mm_types.specs.Ends.{shown_values, value_in}
use Rattle.mm_types.specs.Resolved.{Metamodel}
use Rattle.mm_types.specs.Same.{is_nil, same_value}
use Rattle.mm_types.specs.SameValues.{same_value-self}
use Rattle.mm_types.specs.Shapes.{Shape, shape}
use Rattle.mm_types.specs.declared.numbers.ClassNo.{ClassNo}
use Rattle.mm_types.specs.declared.numbers.FeatureNo.{FeatureNo}
use Rattle.mm_types.specs.declared.numbers.Node.TheVariants as node
use Rattle.mm_types.specs.declared.numbers.ObjectNo.{ObjectNo}
use Rattle.mm_types.specs.declared.value.Value.{Value}
use Rattle.mm_values.specs.Values.{ObjectState, object_at, stored_under}
use Rattle.models.specs.Legal.{IsLegal, IsLegalObject, is_legal_list, is_legal_value}
use Rattle.models.specs.Model.{Model, attribute_values, kept_flag, kept_values, reading}
use Rattle.models.specs.Reading.{at_end, is_set}
use Rattle.containment.proofs.PartLemmas.{all-get}
use Rattle.doc_writer.proofs.PlainLemmas.{object-legal}

---------------------------------------------------------------- what an object keeps

list-legal : (m : Metamodel) (c : ClassNo) (f : FeatureNo) (vs : List Value) → IsTrue (is_legal_list m c f vs) → list_all (is_legal_value m f) vs ≡ true
list-legal m c f [] h = refl
list-legal m c f (v ∷ vs) h = (and_parts _ _ (and_parts _ _ h).1).0

-- values of the attribute, and a flag if it is unsettable, single and has a value
record IsKept (m : Metamodel) (f : FeatureNo) (vs : List Value) (flag : Bool) : Type 0 where
  each : list_all (is_legal_value m f) vs ≡ true
  flagged : flag ≡ ((shape m f).is_unsettable && ((shape m f).is_single && not (is_nil vs)))

never-flagged : (a b : Bool) → false ≡ (a && (b && false))
never-flagged true true = refl
never-flagged true false = refl
never-flagged false b = refl

object-keeps : (m : Metamodel) (f : FeatureNo) (x : Option ObjectState) → IsLegalObject m x
    → IsKept m f (unwrap_or (option_map (λ y. (stored_under y f).list) x) []) (unwrap_or (option_map (λ y. (stored_under y f).flag) x) false)
object-keeps m f None legal = record { each = refl; flagged = never-flagged (shape m f).is_unsettable (shape m f).is_single }
object-keeps m f (Some y) legal = record { each = list-legal m y.class f (stored_under y f).list (legal.1 f).values; flagged = (legal.1 f).flag }

---------------------------------------------------------------- what is set

-- an attribute without stored values is not set
nothing-set : (a : Shape) (flag : Bool) → flag ≡ (a.is_unsettable && (a.is_single && false)) → ends.is_set a (record { values = shown_values a.is_single (attribute_values a []); flag = flag }) ≡ false
nothing-set a flag flagged = by a.is_single a.is_unsettable flagged
  where
    by : (single unsettable : Bool) → flag ≡ (unsettable && (single && false))
        → (if single then (if unsettable then flag else not (same_value (value_in (shown_values single (if single then a.default ∷ [] else [])) 0) a.default)) else not (is_nil (shown_values single (if single then a.default ∷ [] else [])))) ≡ false
    by true true h = h
    by true false h = ap not (same_value-self a.default)
    by false unsettable h = refl

-- each value of an attribute that is set is stored, and is legal
pub kept-legal : (s : Model) → IsLegal s → (o : ObjectNo) (f : FeatureNo) (i : ℕ) (v : Value) → (shape s.metamodel f).is_reference ≡ false → is_set (reading s) (at_end (node.Object o) f) ≡ true
    → slice_get ((reading s).values (at_end (node.Object o) f)) i ≡ Some v → is_legal_value s.metamodel f v ≡ true
kept-legal s legal o f i v attribute set at =
    let m = s.metamodel in
    let e = at_end (node.Object o) f in
    let a = shape m f in
    let flag = kept_flag s.values (node.Object o) f in
    let values : (reading s).values e ≡ attribute_values a (kept_values s.values (node.Object o) f) = rw attribute refl in
    by (kept_values s.values (node.Object o) f) (object-keeps m f (object_at s.values.objects o) (object-legal m s.values.objects o.0 legal.objects))
    (sym (ap (λ (vs : List Value). ends.is_set a (record { values = shown_values a.is_single vs; flag = flag })) values) ∙ set) (ap (λ (vs : List Value). slice_get vs i) (sym values) ∙ at)
  where
    by : (vs : List Value) → IsKept s.metamodel f vs (kept_flag s.values (node.Object o) f)
        → ends.is_set (shape s.metamodel f) (record { values = shown_values (shape s.metamodel f).is_single (attribute_values (shape s.metamodel f) vs); flag = kept_flag s.values (node.Object o) f }) ≡ true
        → slice_get (attribute_values (shape s.metamodel f) vs) i ≡ Some v → is_legal_value s.metamodel f v ≡ true
    by [] kept set there = absurd (false≢true (sym (nothing-set (shape s.metamodel f) (kept_flag s.values (node.Object o) f) kept.flagged) ∙ set))
    by (w ∷ ws) kept set there = all-get (is_legal_value s.metamodel f) (w ∷ ws) i v kept.each there
