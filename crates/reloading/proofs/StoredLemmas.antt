-- The stored values of attributes of a legal model: an attribute that is set stores a value, and one that is not set shows the same as
-- without stored values.
use Rattle.std.proofs.Common.{◌≡◌, ◌∙◌, ℕ, ◌≤◌, pos, int_le, Bool, true, false, ◌&&◌, not, IsTrue, List, [], ◌∷◌, Option, Some, None, length, nat_le, option_map, unwrap_or, if◌then◌else◌, arith, refl, sym, ap, subst}
use Rattle.std.specs.Option.{option_map_or}
use Rattle.std.proofs.lemmas.Bool.{and_parts, false≢true, true≢false}
use Rattle.std.proofs.lemmas.Bool.Decides.{nat_tests}
use Rattle.mm_types.specs.Ends.{shown_values, value_in}
use Rattle.mm_types.specs.Ends as ends
use Rattle.mm_types.specs.Lookups as lookups
use Rattle.mm_types.specs.Resolved.{Metamodel}
use Rattle.mm_types.specs.Same.{is_nil, same_value}
use Rattle.mm_types.specs.SameValues.{same_value-self, same_value-true}
use Rattle.mm_types.specs.Shapes.{Shape, is_bounded, shape}
use Rattle.mm_types.specs.declared.limits.TheConstants.{LIST_VALUES}
use Rattle.mm_types.specs.declared.numbers.ClassNo.{ClassNo}
use Rattle.mm_types.specs.declared.numbers.FeatureNo.{FeatureNo}
use Rattle.mm_types.specs.declared.numbers.Node.TheVariants as node
use Rattle.mm_types.specs.declared.numbers.ObjectNo.{ObjectNo}
use Rattle.mm_types.specs.declared.value.Value.{Value}
use Rattle.mm_values.specs.Values.{ObjectState, object_at, stored_under}
use Rattle.models.specs.Legal.{IsLegal, IsLegalObject, is_legal_list}
use Rattle.models.specs.Model.{Model, attribute_values, kept_flag, kept_values, reading}
use Rattle.models.specs.Reading.{has_feature}
use Rattle.models.proofs.EndLemmas.{upper-single}
use Rattle.doc_writer.proofs.PlainLemmas.{object-legal}

never : (u s : Bool) → false ≡ (u && (s && false))
never true true = refl
never true false = refl
never false s = refl

-- at most one value if the attribute is single, a flag exactly if it is unsettable, single and has a value, and nothing for a feature that
-- the class lacks
pub record IsStored (m : Metamodel) (f : FeatureNo) (has : Bool) (vs : List Value) (flag : Bool) : Type 0 where
  pub flagged : flag ≡ ((shape m f).is_unsettable && ((shape m f).is_single && not (is_nil vs)))
  pub one : (shape m f).is_single ≡ true → length vs ≤ 1
  pub own : is_nil vs ≡ false → has ≡ true

no-more : (a : Shape) (n : ℕ) → a.upper ≡ pos 1 → is_bounded a n ≡ true → n ≤ 1
no-more a n one h =
    let below : (if int_le (pos 1) (pos 1) then int_le (pos n) (pos 1) else true) ≡ true = subst (λ u. (if int_le (pos 1) u then int_le (pos n) u else true) ≡ true) one (and_parts (nat_le n LIST_VALUES) _ h).1 in
    grind (arith, nat_tests, below)

list-one : (m : Metamodel) (c : ClassNo) (f : FeatureNo) (vs : List Value) → IsTrue (is_legal_list m c f vs) → (shape m f).is_single ≡ true → length vs ≤ 1
list-one m c f [] h single = omega arith
list-one m c f (v ∷ vs) h single = no-more (shape m f) (length (v ∷ vs)) (upper-single m f single) (and_parts _ _ (and_parts _ _ h).1).1

list-own : (m : Metamodel) (c : ClassNo) (f : FeatureNo) (vs : List Value) → IsTrue (is_legal_list m c f vs) → is_nil vs ≡ false → lookups.has_feature m c f ≡ true
list-own m c f [] h some = absurd (true≢false some)
list-own m c f (v ∷ vs) h some = (and_parts _ _ h).0

object-stored : (m : Metamodel) (f : FeatureNo) (x : Option ObjectState) → IsLegalObject m x
    → IsStored m f (option_map_or (λ c. lookups.has_feature m c f) (option_map (λ y. y.class) x) false) (unwrap_or (option_map (λ y. (stored_under y f).list) x) []) (unwrap_or (option_map (λ y. (stored_under y f).flag) x) false)
object-stored m f None legal = record { flagged = never (shape m f).is_unsettable (shape m f).is_single; one = λ _. omega arith; own = λ h. absurd (true≢false h) }
object-stored m f (Some y) legal = record {
  flagged = (legal.1 f).flag;
  one = list-one m y.class f (stored_under y f).list (legal.1 f).values;
  own = list-own m y.class f (stored_under y f).list (legal.1 f).values;
}

pub stored-of : (s : Model) → IsLegal s → (o : ObjectNo) (f : FeatureNo)
    → IsStored s.metamodel f (has_feature (reading s) (node.Object o) f) (kept_values s.values (node.Object o) f) (kept_flag s.values (node.Object o) f)
stored-of s legal o f = object-stored s.metamodel f (object_at s.values.objects o) (object-legal s.metamodel s.values.objects o.0 legal.objects)

-- an attribute that is not set shows the same as one without stored values, and its flag is off
pub not-set : (a : Shape) (vs : List Value) (b : Bool) → ends.is_set a (record { values = shown_values a.is_single (attribute_values a vs); flag = b }) ≡ false → b ≡ (a.is_unsettable && (a.is_single && not (is_nil vs))) → (a.is_single ≡ true → length vs ≤ 1)
    → (attribute_values a vs ≡ attribute_values a []) × (b ≡ false)
not-set a [] b set flagged one = (refl, flagged ∙ sym (never a.is_unsettable a.is_single))
not-set a (x ∷ []) b set flagged one = by a.is_single a.is_unsettable set flagged
  where
    not-not : (c : Bool) → not c ≡ false → c ≡ true
    not-not true h = refl
    not-not false h = sym h

    by : (s u : Bool) → (if s then (if u then b else not (same_value (value_in (shown_values s (x ∷ [])) 0) a.default)) else not (is_nil (shown_values s (x ∷ [])))) ≡ false → b ≡ (u && (s && true))
        → (x ∷ [] ≡ (if s then a.default ∷ [] else [])) × (b ≡ false)
    by true true set flagged = absurd (true≢false (sym flagged ∙ set))
    by true false set flagged = (let same = same_value-true x a.default (not-not (same_value x a.default) set) in λ i. same i ∷ [], flagged)
    by false u set flagged = absurd (true≢false set)
not-set a (x ∷ y ∷ ys) b set flagged one =
    elim a.is_single as (λ s. a.is_single ≡ s → (if s then (if a.is_unsettable then b else not (same_value (value_in (shown_values s (x ∷ y ∷ ys)) 0) a.default)) else not (is_nil (shown_values s (x ∷ y ∷ ys)))) ≡ false → (x ∷ y ∷ ys ≡ (if s then a.default ∷ [] else [])) × (b ≡ false)) [
      | true ↦ λ single _. (let few = one single in absurd (omega (arith, few)))
      | false ↦ λ _ h. absurd (true≢false h)
    ] refl set

-- an attribute that is set stores some value, shows its stored values, and its flag is on if it has one
pub record IsSome (a : Shape) (vs : List Value) (b : Bool) : Type 0 where
  pub some : is_nil vs ≡ false
  pub shows : attribute_values a vs ≡ vs
  pub flag : b ≡ (a.is_unsettable && (a.is_single && true))

pub set-some : (a : Shape) (vs : List Value) (b : Bool) → ends.is_set a (record { values = shown_values a.is_single (attribute_values a vs); flag = b }) ≡ true → b ≡ (a.is_unsettable && (a.is_single && not (is_nil vs))) → IsSome a vs b
set-some a (x ∷ xs) b set flagged = record { some = refl; shows = refl; flag = flagged }
set-some a [] b set flagged = absurd (by a.is_single a.is_unsettable set flagged)
  where
    by : (s u : Bool) → (if s then (if u then b else not (same_value (value_in (shown_values s (if s then a.default ∷ [] else [])) 0) a.default)) else not (is_nil (shown_values s (if s then a.default ∷ [] else [])))) ≡ true → b ≡ (u && (s && false)) → ⊥
    by true true set flagged = true≢false (sym set ∙ flagged)
    by true false set flagged = true≢false (sym set ∙ ap not (same_value-self a.default))
    by false u set flagged = false≢true set
