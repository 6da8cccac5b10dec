-- The values of a list that a filter keeps, and a list without repetitions from which one value is taken out.
use Rattle.std.proofs.Common.{◌≡◌, ℕ, zero, suc, ◌≤◌, length, Bool, true, false, not, cond, ◌||◌, List, [], ◌∷◌, Some, if◌then◌else◌, refl, sym, ap, ◌∙◌, subst, arith}
use Rattle.std.specs.List.{slice_get, filter, remove}
use Rattle.std.proofs.lemmas.Bool.{true≢false}
use Rattle.std.proofs.lemmas.Option.{none-some, same_Some}
use Rattle.mm_types.specs.SameValues.{same_value-self, same_value-true}
use Rattle.links.specs.LegalSets.{IsDistinct}
use Rattle.mm_types.specs.Same.{same_value}
use Rattle.mm_types.specs.declared.value.Value.{Value}

-- if the test finds none of the values, all are kept
pub filter_all : (p : Value → Bool) (xs : List Value) → ((k : ℕ) (v : Value) → slice_get xs k ≡ Some v → p v ≡ false) → filter (λ v. not (p v)) xs ≡ xs
filter_all p [] h = refl
filter_all p (x ∷ xs) h = let here = h zero x refl in rw here (ap (λ (ys : List Value). x ∷ ys) (filter_all p xs (λ k v at. h (suc k) v at)))

-- tests that agree on the values of a list keep the same
pub filter_alike : (p q : Value → Bool) (xs : List Value) → ((k : ℕ) (v : Value) → slice_get xs k ≡ Some v → p v ≡ q v) → filter p xs ≡ filter q xs
filter_alike p q [] h = refl
filter_alike p q (x ∷ xs) h =
    let rest = filter_alike p q xs (λ k v at. h (suc k) v at) in
    let here = h zero x refl in
    λ i. cond (here i) (x ∷ rest i) (rest i)

-- a value that passes the test is still in the list
pub filter_keeps : (p : Value → Bool) (xs : List Value) (k : ℕ) (v : Value) → slice_get xs k ≡ Some v → p v ≡ true → (j : ℕ) × (slice_get (filter p xs) j ≡ Some v)
filter_keeps p [] k v at h = absurd (none-some v at)
filter_keeps p (x ∷ xs) zero v at h =
    elim (p x) as (λ b. p x ≡ b → (j : ℕ) × (slice_get (cond b (x ∷ filter p xs) (filter p xs)) j ≡ Some v)) [
      | true ↦ λ q. (zero, at)
      | false ↦ λ q. absurd (true≢false (sym h ∙ ap p (sym (same_Some x v at)) ∙ q))
    ] refl
filter_keeps p (x ∷ xs) (suc k) v at h =
    let rest = filter_keeps p xs k v at h in
    elim (p x) as (λ b. (j : ℕ) × (slice_get (cond b (x ∷ filter p xs) (filter p xs)) j ≡ Some v)) [
      | true ↦ (suc rest.0, rest.1)
      | false ↦ rest
    ]

-- with one more value before both lists, a value of the first list is still in the second
found_behind : (x : Value) (ys xs : List Value) (v : Value) → ((i : ℕ) → slice_get ys i ≡ Some v → (j : ℕ) × (slice_get xs j ≡ Some v)) → (k : ℕ) → slice_get (x ∷ ys) k ≡ Some v → (j : ℕ) × (slice_get (x ∷ xs) j ≡ Some v)
found_behind x ys xs v rest zero at = (zero, at)
found_behind x ys xs v rest (suc k) at = let there = rest k at in (suc there.0, there.1)

first_passes : (p : Value → Bool) (x : Value) (ys : List Value) (v : Value) → p x ≡ true → ((i : ℕ) → slice_get ys i ≡ Some v → p v ≡ true) → (k : ℕ) → slice_get (x ∷ ys) k ≡ Some v → p v ≡ true
first_passes p x ys v h rest zero at = subst (λ (y : Value). p y ≡ true) (same_Some x v at) h
first_passes p x ys v h rest (suc k) at = rest k at

-- a value that a filter leaves was in the list
pub filter_from : (p : Value → Bool) (xs : List Value) (k : ℕ) (v : Value) → slice_get (filter p xs) k ≡ Some v → (j : ℕ) × (slice_get xs j ≡ Some v)
filter_from p [] k v at = absurd (none-some v at)
filter_from p (x ∷ xs) k v at =
    elim (p x) as (λ b. slice_get (cond b (x ∷ filter p xs) (filter p xs)) k ≡ Some v → (j : ℕ) × (slice_get (x ∷ xs) j ≡ Some v)) [
      | true ↦ λ q. found_behind x (filter p xs) xs v (λ i h. filter_from p xs i v h) k q
      | false ↦ λ q. let there = filter_from p xs k v q in (suc there.0, there.1)
    ] at

-- a value that a filter leaves passes the test
pub filter_passes : (p : Value → Bool) (xs : List Value) (k : ℕ) (v : Value) → slice_get (filter p xs) k ≡ Some v → p v ≡ true
filter_passes p [] k v at = absurd (none-some v at)
filter_passes p (x ∷ xs) k v at =
    elim (p x) as (λ b. p x ≡ b → slice_get (cond b (x ∷ filter p xs) (filter p xs)) k ≡ Some v → p v ≡ true) [
      | true ↦ λ h q. first_passes p x (filter p xs) v h (λ i r. filter_passes p xs i v r) k q
      | false ↦ λ h q. filter_passes p xs k v q
    ] refl at

pub length-filter_le : (p : Value → Bool) (xs : List Value) → length (filter p xs) ≤ length xs
length-filter_le p [] = omega arith
length-filter_le p (x ∷ xs) =
    let rest = length-filter_le p xs in
    elim (p x) as (λ b. length (cond b (x ∷ filter p xs) (filter p xs)) ≤ suc (length xs)) [ true ↦ omega (arith, rest) | false ↦ omega (arith, rest) ]

filter_none : (xs : List Value) → filter (λ v. false) xs ≡ []
filter_none [] = refl
filter_none (x ∷ xs) = filter_none xs

-- either all values are taken out, or the values that the test finds
pub filter_or : (b : Bool) (p : Value → Bool) (xs : List Value) → filter (λ v. not (b || p v)) xs ≡ (if b then [] else filter (λ v. not (p v)) xs)
filter_or true p xs = filter_none xs
filter_or false p xs = refl

pub filter_twice : (a b : Value → Bool) (xs : List Value) → filter (λ v. not (b v)) (filter (λ v. not (a v)) xs) ≡ filter (λ v. not (a v || b v)) xs
filter_twice a b [] = refl
filter_twice a b (x ∷ xs) =
    let rest = filter_twice a b xs in
    elim (a x) as (λ q. filter (λ v. not (b v)) (cond (not q) (x ∷ filter (λ v. not (a v)) xs) (filter (λ v. not (a v)) xs)) ≡ cond (not (q || b x)) (x ∷ filter (λ v. not (a v || b v)) xs) (filter (λ v. not (a v || b v)) xs)) [
      | true ↦ rest
      | false ↦ elim (b x) as (λ r. cond (not r) (x ∷ filter (λ v. not (b v)) (filter (λ v. not (a v)) xs)) (filter (λ v. not (b v)) (filter (λ v. not (a v)) xs)) ≡ cond (not r) (x ∷ filter (λ v. not (a v || b v)) xs) (filter (λ v. not (a v || b v)) xs)) [
        | true ↦ rest
        | false ↦ ap (λ (ys : List Value). x ∷ ys) rest
      ]
    ]

---------------------------------------------------------------- without one value

other_value : (x v : Value) → ((x ≡ v) → ⊥) → same_value v x ≡ false
other_value x v ne = elim (same_value v x) as (λ b. same_value v x ≡ b → b ≡ false) [
  | true ↦ λ h. absurd (ne (sym (same_value-true v x h)))
  | false ↦ λ _. refl
] refl

-- in a list without repetitions, removing a value is the same as filtering by a test for it
pub remove-filter : (xs : List Value) (k : ℕ) (x : Value) → IsDistinct xs → slice_get xs k ≡ Some x → remove xs k ≡ filter (λ v. not (same_value x v)) xs
remove-filter [] k x d at = absurd (none-some x at)
remove-filter (y ∷ ys) zero x d at =
    let here : same_value x y ≡ true = subst (λ (z : Value). same_value x z ≡ true) (sym (same_Some y x at)) (same_value-self x) in
    rw here (sym (filter_all (same_value x) ys (λ k v in_k. other_value v x (λ same. omega (arith, d 0 (suc k) x at (in_k ∙ ap Some same))))))
remove-filter (y ∷ ys) (suc k) x d at =
    let other = other_value y x (λ same. omega (arith, d 0 (suc k) x (ap Some same) at)) in
    rw other (ap (λ (zs : List Value). y ∷ zs) (remove-filter ys k x (λ i j v a b. omega (arith, d (suc i) (suc j) v a b)) at))
