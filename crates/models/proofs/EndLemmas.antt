-- The values at the ends of references.
use Rattle.std.proofs.Common.{◌≡◌, ◌≤◌, nat_le, arith, pos, option_to_list, ℕ, Bool, true, false, IsTrue, List, [], ◌∷◌, length, slice_get, Option, Some, None, unwrap_or, if◌then◌else◌, refl, sym, subst}
use Rattle.std.specs.Prelude.{int_le}
use Rattle.std.proofs.lemmas.Bool.{and_parts}
use Rattle.mm_types.specs.Ends.{shown_values, value_in}
use Rattle.std.proofs.lemmas.Bool.Decides.{Decides-int_eq, nat_tests}
use Rattle.std.specs.Option.{option_map_or}
use Rattle.mm_types.specs.Lookups as lookups
use Rattle.mm_types.specs.Resolved.{Metamodel}
use Rattle.mm_types.specs.Shapes.{Shape, contents_shape, is_bounded, shape, shape_of}
use Rattle.mm_types.specs.declared.feature.Feature.{Feature}
use Rattle.mm_types.specs.declared.feature.Kind.{Kind}
use Rattle.mm_types.specs.declared.feature.Kind.TheVariants.{Attribute, Reference}
use Rattle.mm_types.specs.declared.limits.TheConstants.{LIST_VALUES}
use Rattle.mm_types.specs.declared.numbers.FeatureNo.{FeatureNo}
use Rattle.mm_types.specs.declared.end.End.{End}
use Rattle.mm_types.specs.declared.value.Value.{Value}
use Rattle.mm_types.specs.declared.value.Value.TheVariants as value
use Rattle.links.specs.Links.{end}
use Rattle.models.specs.Legal.{IsLegal, is_legal_end}
use Rattle.models.specs.Model.{Model, reading}
use Rattle.models.specs.Reading.{Reading, shape_at, value_at}
use Rattle.models.proofs.ReadLemmas.{value_in_shown}

shown_values-none : (b : Bool) → value_in (shown_values b []) 0 ≡ value.Null
shown_values-none true = refl
shown_values-none false = refl

-- what a single end has is its first value, and else null
first-shown_values : (b : Bool) (vs : List Value) → unwrap_or (slice_get vs 0) value.Null ≡ value_in (shown_values b vs) 0
first-shown_values b [] = sym (shown_values-none b)
first-shown_values b (v ∷ vs) = sym (value_in_shown b v vs)

pub value_at-first : (s : Model) (e : End) → unwrap_or (slice_get ((reading s).values e) 0) value.Null ≡ value_at (reading s) e
value_at-first s e = first-shown_values (shape s.metamodel e.feature).is_single ((reading s).values e)

---------------------------------------------------------------- single ends

upper-of : (m : Metamodel) (f : FeatureNo) (g : Feature) (k : Kind) → (shape_of m f g k).is_single ≡ true → (shape_of m f g k).upper ≡ pos 1
upper-of m f g (Attribute t unique unsettable default) h = (Decides-int_eq g.upper (pos 1)).0 h
upper-of m f g (Reference target containment opposite) h = (Decides-int_eq g.upper (pos 1)).0 h

upper-from : (m : Metamodel) (f : FeatureNo) (o : Option Feature) → (option_map_or (λ g. shape_of m f g g.kind) o (contents_shape m)).is_single ≡ true → (option_map_or (λ g. shape_of m f g g.kind) o (contents_shape m)).upper ≡ pos 1
upper-from m f None h = cc
upper-from m f (Some g) h = upper-of m f g g.kind h

-- a single feature has at most one value
pub upper-single : (m : Metamodel) (f : FeatureNo) → (shape m f).is_single ≡ true → (shape m f).upper ≡ pos 1
upper-single m f h = upper-from m f (lookups.feature m f) h

bounded-one : (a : Shape) (n : ℕ) → a.upper ≡ pos 1 → IsTrue (is_bounded a n) → n ≤ 1
bounded-one a n one h =
    let below : IsTrue (if int_le (pos 1) (pos 1) then int_le (pos n) (pos 1) else true) = subst (λ u. IsTrue (if int_le (pos 1) u then int_le (pos n) u else true)) one (and_parts (nat_le n LIST_VALUES) _ h).1 in
    grind (arith, nat_tests, below)

-- each legal end of a single feature has at most one value
one-at-most : (r : Reading) (e : End) (vs : List Value) → (shape_at r e).is_single ≡ true → IsTrue (is_legal_end r e vs) → vs ≡ option_to_list (slice_get vs 0)
one-at-most r e [] single h = refl
one-at-most r e (v ∷ []) single h = refl
one-at-most r e (v ∷ w ∷ vs) single h =
    absurd (omega (arith, bounded-one (shape_at r e) (length (v ∷ w ∷ vs)) (upper-single r.metamodel e.feature single) (and_parts _ _ (and_parts _ _ h).1).1))

pub values-single : (s : Model) (e : End) → IsLegal s → (shape s.metamodel e.feature).is_reference ≡ true → (shape s.metamodel e.feature).is_single ≡ true
    → (reading s).values e ≡ option_to_list (slice_get ((reading s).values e) 0)
values-single s e legal reference single = rw reference (one-at-most (reading s) e (end s.links e) single (legal.links.ends e))
