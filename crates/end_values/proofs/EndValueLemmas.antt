-- Objects as values: reads, edits and searches of a list of objects are those of the list of values.
use Rattle.std.proofs.Common.{◌≡◌, ℕ, zero, suc, ◌+◌, ◌<◌, Bool, true, false, List, [], ◌∷◌, ◌++◌, length, take, drop, position, Option, Some, None, option_map, unwrap_or, refl, sym, ap, ◌∙◌, add-one, arith}
use Rattle.std.specs.Prelude.{option_and_then}
use Rattle.std.specs.Option.{option_to_list}
use Rattle.std.specs.List.{insert, remove, slice_get}
use Rattle.std.proofs.lemmas.Bool.{false≢true}
use Rattle.std.proofs.lemmas.List.{drop-map, length-map, map-append, take-map}
use Rattle.std.proofs.lemmas.Option.{slice_get-map}
use Rattle.mm_types.proofs.PositionLemmas.{position-first, position-rest}
use Rattle.mm_types.specs.Same.{same_value}
use Rattle.mm_types.specs.declared.numbers.ObjectNo.{ObjectNo}
use Rattle.mm_types.specs.declared.value.Value.{Value}
use Rattle.mm_types.specs.declared.value.Value.TheVariants as value
use Rattle.links.specs.Links.{object_of, text_of}
use Rattle.slot_lists.specs.Moved.{list_after_move}
use Rattle.end_values.specs.EndValues.{CanHave, is_value, object_value, objects}

pub length_objects : (xs : List ObjectNo) → length (objects xs) ≡ length xs
length_objects xs = length-map xs object_value

---------------------------------------------------------------- reads

pub object_of_objects : (xs : List ObjectNo) (i : ℕ) → option_and_then object_of (slice_get (objects xs) i) ≡ slice_get xs i
object_of_objects xs i = ap (option_and_then object_of) (slice_get-map object_value xs i) ∙ at (slice_get xs i)
  where
    at : (o : Option ObjectNo) → option_and_then object_of (option_map object_value o) ≡ o
    at None = refl
    at (Some o) = refl

pub text_of_objects : (xs : List ObjectNo) (i : ℕ) → option_and_then text_of (slice_get (objects xs) i) ≡ None
text_of_objects xs i = ap (option_and_then text_of) (slice_get-map object_value xs i) ∙ at (slice_get xs i)
  where
    at : (o : Option ObjectNo) → option_and_then text_of (option_map object_value o) ≡ None
    at None = refl
    at (Some o) = refl

pub is_value_objects : (v : Value) (xs : List ObjectNo) (i : ℕ) → is_value v (slice_get (objects xs) i) ≡ is_value v (option_map object_value (slice_get xs i))
is_value_objects v xs i = ap (is_value v) (slice_get-map object_value xs i)

-- a value that is no object is not in a list of objects
not_same : (v : Value) → ((o : ObjectNo) → v ≡ value.Object o → ⊥) → (o : ObjectNo) → same_value v (object_value o) ≡ false
not_same value.Null none o = refl
not_same (value.Bool b) none o = refl
not_same (value.Int n) none o = refl
not_same (value.Text t) none o = refl
not_same (value.Literal k) none o = refl
not_same (value.Object p) none o = absurd (none p refl)
not_same (value.Proxy t) none o = refl

pub not_there : (v : Value) → ((o : ObjectNo) → v ≡ value.Object o → ⊥) → (o : Option ObjectNo) → false ≡ is_value v (option_map object_value o)
not_there v none None = refl
not_there v none (Some o) = sym (not_same v none o)

pub found_objects : (v : Value) (p : ObjectNo → Bool) → ((o : ObjectNo) → same_value v (object_value o) ≡ p o) → (xs : List ObjectNo) → position p xs ≡ position (same_value v) (objects xs)
found_objects v p same [] = refl
found_objects v p same (x ∷ xs) = elim (p x) as (λ b. p x ≡ b → position p (x ∷ xs) ≡ position (same_value v) (object_value x ∷ objects xs)) [
  | true ↦ λ q. position-first p x xs q ∙ sym (position-first (same_value v) (object_value x) (objects xs) (same x ∙ q))
  | false ↦ λ q.
      position-rest p x xs q
      ∙ ap (option_map suc) (found_objects v p same xs)
      ∙ sym (position-rest (same_value v) (object_value x) (objects xs) (same x ∙ q))
] refl

none_of : (xs : List ObjectNo) → position (λ o. false) xs ≡ None
none_of [] = refl
none_of (x ∷ xs) = position-rest (λ o. false) x xs refl ∙ ap (option_map suc) (none_of xs)

pub not_found : (v : Value) → ((o : ObjectNo) → v ≡ value.Object o → ⊥) → (xs : List ObjectNo) → None ≡ position (same_value v) (objects xs)
not_found v none xs = sym (none_of xs) ∙ found_objects v (λ o. false) (not_same v none) xs

---------------------------------------------------------------- edits

pub insert_objects : (xs : List ObjectNo) (i : ℕ) (o : ObjectNo) → objects (insert xs i o) ≡ insert (objects xs) i (value.Object o)
insert_objects xs i o =
    map-append object_value (take i xs) (o ∷ drop i xs)
    ∙ (λ j. sym (take-map object_value i xs) j ++ value.Object o ∷ sym (drop-map object_value i xs) j)

pub remove_objects : (xs : List ObjectNo) (i : ℕ) → objects (remove xs i) ≡ remove (objects xs) i
remove_objects xs i =
    map-append object_value (take i xs) (drop (suc i) xs)
    ∙ (λ j. sym (take-map object_value i xs) j ++ sym (drop-map object_value (suc i) xs) j)

pub moved_objects : (xs : List ObjectNo) (to from : ℕ) → objects (list_after_move xs to from) ≡ list_after_move (objects xs) to from
moved_objects xs to from =
    at (slice_get xs from)
    ∙ ap (λ o. unwrap_or (option_map (insert (remove (objects xs) from) to) o) (objects xs)) (sym (slice_get-map object_value xs from))
  where
    at : (o : Option ObjectNo) → objects (unwrap_or (option_map (insert (remove xs from) to) o) xs) ≡ unwrap_or (option_map (insert (remove (objects xs) from) to) (option_map object_value o)) (objects xs)
    at None = refl
    at (Some o) = insert_objects (remove xs from) to o ∙ ap (λ ys. insert ys to (value.Object o)) (remove_objects xs from)

-- a list of only objects can have no other value
pub only_objects : (v : Value) → CanHave false v → ((o : ObjectNo) → v ≡ value.Object o → ⊥) → ⊥
only_objects value.Null can none = false≢true can
only_objects (value.Bool b) can none = false≢true can
only_objects (value.Int n) can none = false≢true can
only_objects (value.Text t) can none = false≢true can
only_objects (value.Literal k) can none = false≢true can
only_objects (value.Object o) can none = none o refl
only_objects (value.Proxy t) can none = false≢true can

---------------------------------------------------------------- one after the other

next_object : (xs : List ObjectNo) (i : ℕ) → i < length xs → objects (take (suc i) xs) ≡ objects (take i xs) ++ option_to_list (option_map object_value (slice_get xs i))
next_object [] i lt = absurd (omega (arith, lt))
next_object (x ∷ xs) zero lt = refl
next_object (x ∷ xs) (suc i) lt = ap (λ vs. object_value x ∷ vs) (next_object xs i (omega (arith, lt)))

pub pushed_object : (xs : List ObjectNo) (i : ℕ) (o : Option ObjectNo) (vs ws : List Value) → i < length xs → o ≡ slice_get xs i → vs ≡ objects (take i xs) → ws ≡ vs ++ option_to_list (option_map object_value o) → ws ≡ objects (take (i + 1) xs)
pushed_object xs i o vs ws lt at was now =
    now ∙ (λ j. was j ++ option_to_list (option_map object_value (at j))) ∙ sym (rw add-one (next_object xs i lt))
