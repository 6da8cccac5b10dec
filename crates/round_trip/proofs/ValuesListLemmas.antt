-- Elements of lists that are found by tests and by indexes.
use Rattle.std.proofs.Common.{◌≡◌, ℕ, zero, suc, Bool, true, false, cond, Contains, List, [], ◌∷◌, map, filter, flat_map, position, slice_get, Some, None, option_map, arith, eq-eqb, inl, inr, refl, sym, ap, ◌∙◌, subst}
use Rattle.std.specs.List.{list_any}
use Rattle.std.proofs.lemmas.Bool.{false_from_ne_true, false≢true, or_cases, or_parts, true≢false}
use Rattle.std.proofs.lemmas.List.Elements.{All-contains, Contains-append_left, Contains-append_right, filter_passes}
use Rattle.std.proofs.lemmas.List.Folds.{list_any_at}
use Rattle.std.proofs.lemmas.Option.{get_or_from_slice_get, none-some, same_Some, slice_get-get_or, slice_get_within}
use Rattle.mm_types.specs.Same.{same_object}
use Rattle.mm_types.specs.declared.numbers.ObjectNo.{ObjectNo}
use Rattle.mm_types.specs.declared.value.Value.{Value}
use Rattle.mm_types.specs.declared.value.Value.TheVariants as value
use Rattle.models.specs.Reading.{objects_of}
use Rattle.containment.proofs.MemberLemmas.{same-object}
use Rattle.doc_parts.proofs.WayLemmas.{position_cons}

---------------------------------------------------------------- elements and indexes

module _ {X : Type 0} where
  -- the value at an index is an element, and each element is at an index
  pub stands : (xs : List X) (k : ℕ) (x : X) → slice_get xs k ≡ Some x → Contains xs x
  stands xs k x at = (k, slice_get_within xs k x at, get_or_from_slice_get xs k x x at)

  pub place-of : (xs : List X) (x : X) → Contains xs x → (k : ℕ) × (slice_get xs k ≡ Some x)
  place-of xs x c = (c.0, slice_get-get_or xs c.0 x c.1 ∙ ap Some c.2)

  pub behind : (y : X) (xs : List X) (x : X) → Contains xs x → Contains (y ∷ xs) x
  behind y xs x c = let low = c.1 in (suc c.0, omega (arith, low), c.2)

  pub in-front : (x : X) (xs : List X) → Contains (x ∷ xs) x
  in-front x xs = (0, omega arith, refl)

  -- if no element passes a test, a given element does not
  pub none-passes : (p : X → Bool) (xs : List X) (x : X) → list_any p xs ≡ false → Contains xs x → p x ≡ false
  none-passes p xs x none c = false_from_ne_true (p x) (λ passes. true≢false (sym (list_any_at p xs c.0 x c.1 (ap p c.2 ∙ passes)) ∙ none))

  ---------------------------------------------------------------- what passes a test

  kept-at : (p : X → Bool) (xs : List X) (k : ℕ) (x : X) → slice_get xs k ≡ Some x → p x ≡ true → Contains (filter p xs) x
  kept-at p [] k x at passes = absurd (none-some x at)
  kept-at p (y ∷ ys) zero x at passes =
      let same = same_Some y x at in
      subst (λ (b : Bool). Contains (cond b (y ∷ filter p ys) (filter p ys)) x) (sym (ap p same ∙ passes)) (0, omega arith, same)
  kept-at p (y ∷ ys) (suc k) x at passes =
      let c = kept-at p ys k x at passes in
      elim (p y) as (λ b. Contains (cond b (y ∷ filter p ys) (filter p ys)) x) [ true ↦ behind y (filter p ys) x c | false ↦ c ]

  pub is-kept : (p : X → Bool) (xs : List X) (x : X) → Contains xs x → p x ≡ true → Contains (filter p xs) x
  is-kept p xs x c passes = let at = place-of xs x c in kept-at p xs at.0 x at.1 passes

  pub passes-kept : (p : X → Bool) (xs : List X) (x : X) → Contains (filter p xs) x → p x ≡ true
  passes-kept p xs x c = All-contains (λ y. p y ≡ true) (filter p xs) x (filter_passes p xs) c

module _ {X Y : Type 0} where
  -- the results of one element are among the results of all
  pub in-all : (f : X → List Y) (xs : List X) (k : ℕ) (x : X) (y : Y) → slice_get xs k ≡ Some x → Contains (f x) y → Contains (flat_map f xs) y
  in-all f [] k x y at c = absurd (none-some x at)
  in-all f (z ∷ zs) zero x y at c = Contains-append_left (f z) (flat_map f zs) y (subst (λ (w : X). Contains (f w) y) (sym (same_Some z x at)) c)
  in-all f (z ∷ zs) (suc k) x y at c = Contains-append_right (f z) (flat_map f zs) y (in-all f zs k x y at c)

  -- two tests that agree at each element find the same first index
  pub position-map : (p : Y → Bool) (q : X → Bool) (f : X → Y) (xs : List X) → ((x : X) → Contains xs x → p (f x) ≡ q x) → position p (map f xs) ≡ position q xs
  position-map p q f [] same = refl
  position-map p q f (x ∷ xs) same =
      let here = same x (in-front x xs) in
      let rest = position-map p q f xs (λ y c. same y (behind x xs y c)) in
      position_cons p (f x) (map f xs) ∙ (λ i. cond (here i) (Some 0) (option_map suc (rest i))) ∙ sym (position_cons q x xs)

---------------------------------------------------------------- objects

pub found-among : (os : List ObjectNo) (o : ObjectNo) → Contains os o → list_any (same_object o) os ≡ true
found-among os o c = list_any_at (same_object o) os c.0 o c.1 (ap (same_object o) c.2 ∙ eq-eqb o.0 o.0 refl)

pub among-found : (os : List ObjectNo) (o : ObjectNo) → list_any (same_object o) os ≡ true → Contains os o
among-found [] o h = absurd (false≢true h)
among-found (p ∷ ps) o h = elim (or_cases (same_object o p) (list_any (same_object o) ps) h) [
  | inl here ↦ (0, omega arith, sym (same-object o p here))
  | inr later ↦ behind p ps o (among-found ps o later)
]

-- the object at an index is among the objects
pub object-among : (vs : List Value) (k : ℕ) (o : ObjectNo) → slice_get vs k ≡ Some (value.Object o) → Contains (objects_of vs) o
object-among [] k o at = absurd (none-some (value.Object o) at)
object-among (v ∷ vs) zero o at = subst (λ (w : Value). Contains (objects_of (w ∷ vs)) o) (sym (same_Some v (value.Object o) at)) (in-front o (objects_of vs))
object-among (value.Object p ∷ vs) (suc k) o at = behind p (objects_of vs) o (object-among vs k o at)
object-among (v ∷ vs) (suc k) o at = object-among vs k o at

-- an object of a list is found at its index
pub record IsAt (os : List ObjectNo) (o : ObjectNo) : Type 0 where
  pub number : ℕ
  pub found : position (same_object o) os ≡ Some number
  pub there : slice_get os number ≡ Some o

pub object-at : (os : List ObjectNo) (o : ObjectNo) → list_any (same_object o) os ≡ true → IsAt os o
object-at [] o h = absurd (false≢true h)
object-at (p ∷ ps) o h =
    elim (same_object o p) as (λ b. same_object o p ≡ b → IsAt (p ∷ ps) o) [
      | true ↦ λ same. record {
        number = 0;
        found = position_cons (same_object o) p ps ∙ ap (λ (b : Bool). cond b (Some 0) (option_map suc (position (same_object o) ps))) same;
        there = ap Some (sym (same-object o p same));
      }
      | false ↦ λ other.
          let rest = object-at ps o (elim (or_cases (same_object o p) (list_any (same_object o) ps) h) [ inl here ↦ absurd (false≢true (sym other ∙ here)) | inr later ↦ later ]) in
          record {
            number = suc rest.number;
            found = position_cons (same_object o) p ps ∙ (λ i. cond (other i) (Some 0) (option_map suc (rest.found i)));
            there = rest.there;
          }
    ] refl

pub object-nowhere : (os : List ObjectNo) (o : ObjectNo) → list_any (same_object o) os ≡ false → position (same_object o) os ≡ None
object-nowhere [] o none = refl
object-nowhere (p ∷ ps) o none =
    let both = or_parts (same_object o p) (list_any (same_object o) ps) none in
    position_cons (same_object o) p ps ∙ (λ i. cond (both.0 i) (Some 0) (option_map suc (object-nowhere ps o both.1 i)))
