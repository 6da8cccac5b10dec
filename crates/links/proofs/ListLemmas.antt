-- The values at the indexes of a list after `insert`, `remove` and a shift, by `slice_get`; and the positions after the edits.
use Rattle.std.proofs.Common.{◌≡◌, ◌≢◌, ℕ, zero, suc, ◌+◌, ◌<◌, ◌≤◌, List, [], ◌∷◌, ◌++◌, length, take, drop, Some, None, refl, sym, ap, ◌∙◌, subst, inl, inr, arith}
use Rattle.std.specs.List.{slice_get, insert, remove}
use Rattle.std.proofs.Common.{map, set, get_or}
use Rattle.std.proofs.lemmas.List.{get_or_default}
use Rattle.std.proofs.lemmas.List.Edits.{map_over_more}
use Rattle.std.proofs.lemmas.Bool.Decides.{nat_tests}
use Rattle.std.proofs.lemmas.Bool.{cases_lt, cases_order}
use Rattle.std.proofs.lemmas.Option.{same_Some}
use Rattle.std.specs.Prelude.{◌⊎◌}
use Rattle.links.specs.LegalSets.{IsDistinct}
use Rattle.links.specs.Links.{lower, raise, shifted_index}
use Rattle.mm_types.specs.Lists.{put_back, values_after_move}
use Rattle.mm_types.specs.declared.value.Value.{Value}

module _ {X : Type 0} where
  pub slice_get-insert_below : (xs : List X) (i k : ℕ) (x : X) → k < i → i ≤ length xs → slice_get (insert xs i x) k ≡ slice_get xs k
  slice_get-insert_below xs zero k x lt h = absurd (omega (arith, lt))
  slice_get-insert_below [] (suc i) k x lt h = absurd (omega (arith, h))
  slice_get-insert_below (y ∷ xs) (suc i) zero x lt h = refl
  slice_get-insert_below (y ∷ xs) (suc i) (suc k) x lt h = slice_get-insert_below xs i k x (omega (arith, lt)) (omega (arith, h))

  pub slice_get-insert_at : (xs : List X) (i : ℕ) (x : X) → i ≤ length xs → slice_get (insert xs i x) i ≡ Some x
  slice_get-insert_at xs zero x h = refl
  slice_get-insert_at [] (suc i) x h = absurd (omega (arith, h))
  slice_get-insert_at (y ∷ xs) (suc i) x h = slice_get-insert_at xs i x (omega (arith, h))

  pub slice_get-insert_above : (xs : List X) (i k : ℕ) (x : X) → i ≤ k → i ≤ length xs → slice_get (insert xs i x) (suc k) ≡ slice_get xs k
  slice_get-insert_above xs zero k x le h = refl
  slice_get-insert_above [] (suc i) k x le h = absurd (omega (arith, h))
  slice_get-insert_above (y ∷ xs) (suc i) zero x le h = absurd (omega (arith, le))
  slice_get-insert_above (y ∷ xs) (suc i) (suc k) x le h = slice_get-insert_above xs i k x (omega (arith, le)) (omega (arith, h))

  pub slice_get-remove_below : (xs : List X) (i k : ℕ) → k < i → slice_get (remove xs i) k ≡ slice_get xs k
  slice_get-remove_below xs zero k lt = absurd (omega (arith, lt))
  slice_get-remove_below [] (suc i) k lt = refl
  slice_get-remove_below (y ∷ xs) (suc i) zero lt = refl
  slice_get-remove_below (y ∷ xs) (suc i) (suc k) lt = slice_get-remove_below xs i k (omega (arith, lt))

  pub slice_get-remove_above : (xs : List X) (i k : ℕ) → i ≤ k → slice_get (remove xs i) k ≡ slice_get xs (suc k)
  slice_get-remove_above [] zero k le = refl
  slice_get-remove_above (y ∷ xs) zero k le = refl
  slice_get-remove_above [] (suc i) k le = refl
  slice_get-remove_above (y ∷ xs) (suc i) zero le = absurd (omega (arith, le))
  slice_get-remove_above (y ∷ xs) (suc i) (suc k) le = slice_get-remove_above xs i k (omega (arith, le))

  pub slice_get-push : (xs : List X) (x : X) → slice_get (xs ++ x ∷ []) (length xs) ≡ Some x
  slice_get-push [] x = refl
  slice_get-push (y ∷ xs) x = slice_get-push xs x

  pub slice_get-push_below : (xs : List X) (x : X) (k : ℕ) → k < length xs → slice_get (xs ++ x ∷ []) k ≡ slice_get xs k
  slice_get-push_below [] x k lt = absurd (omega (arith, lt))
  slice_get-push_below (y ∷ xs) x zero lt = refl
  slice_get-push_below (y ∷ xs) x (suc k) lt = slice_get-push_below xs x k (omega (arith, lt))

  pub length_push : (xs : List X) (x : X) → length (xs ++ x ∷ []) ≡ suc (length xs)
  length_push [] x = refl
  length_push (y ∷ xs) x = ap suc (length_push xs x)

  pub length_insert : (xs : List X) (i : ℕ) (x : X) → i ≤ length xs → length (insert xs i x) ≡ suc (length xs)
  length_insert xs zero x h = refl
  length_insert [] (suc i) x h = absurd (omega (arith, h))
  length_insert (y ∷ xs) (suc i) x h = ap suc (length_insert xs i x (omega (arith, h)))

  pub length_remove : (xs : List X) (i : ℕ) → i < length xs → suc (length (remove xs i)) ≡ length xs
  length_remove [] i h = absurd (omega (arith, h))
  length_remove (y ∷ xs) zero h = refl
  length_remove (y ∷ xs) (suc i) h = ap suc (length_remove xs i (omega (arith, h)))

pub length_remove_le : {X : Type 0} (xs : List X) (i : ℕ) → length (remove xs i) ≤ length xs
length_remove_le [] zero = omega arith
length_remove_le [] (suc i) = omega arith
length_remove_le (y ∷ xs) zero = omega arith
length_remove_le (y ∷ xs) (suc i) = omega (arith, length_remove_le xs i)

pub length_shifted : (xs : List Value) (to from : ℕ) → from < length xs → to < length xs → length (values_after_move xs to from) ≡ length xs
length_shifted xs to from f t =
    elim (slice_get xs from) as (λ o. slice_get xs from ≡ o → length (put_back o xs to from) ≡ length xs) [
      | None ↦ λ h. refl
      | Some x ↦ λ h. length_insert (remove xs from) to x (omega (arith, t, length_remove xs from f)) ∙ length_remove xs from f
    ] refl

pub raise_below : (i k : ℕ) → k < i → raise i k ≡ k
raise_below i k h = grind (arith, nat_tests)

pub raise_above : (i k : ℕ) → i ≤ k → raise i k ≡ suc k
raise_above i k h = grind (arith, nat_tests)

pub lower_below : (i k : ℕ) → k < i → lower i k ≡ k
lower_below i k h = grind (arith, nat_tests)

pub lower_above : (i k : ℕ) → i ≤ k → lower i (suc k) ≡ k
lower_above i k h = grind (arith, nat_tests)

pub raise_injective : (i j k : ℕ) → raise i j ≡ raise i k → j ≡ k
raise_injective i j k h = grind (arith, nat_tests)

pub raise_other : (i k : ℕ) → raise i k ≢ i
raise_other i k h = grind (arith, nat_tests)

pub lower_injective : (i j k : ℕ) → j ≢ i → k ≢ i → lower i j ≡ lower i k → j ≡ k
lower_injective i j k nj nk h = grind (arith, nat_tests)

pub shifted_back : (to from k : ℕ) → shifted_index to from (shifted_index from to k) ≡ k
shifted_back to from k = grind (arith, nat_tests)

module _ {X : Type 0} where
  pub slice_get-insert_raise : (xs : List X) (i k : ℕ) (x : X) → i ≤ length xs → slice_get (insert xs i x) (raise i k) ≡ slice_get xs k
  slice_get-insert_raise xs i k x h = elim (cases_lt k i) [
    | inl lt ↦ rw (raise_below i k lt) (slice_get-insert_below xs i k x lt h)
    | inr ge ↦ rw (raise_above i k ge) (slice_get-insert_above xs i k x ge h)
  ]

  slice_get-remove_above_lower : (xs : List X) (i k : ℕ) → i < k → slice_get (remove xs i) (lower i k) ≡ slice_get xs k
  slice_get-remove_above_lower xs i zero gt = absurd (omega (arith, gt))
  slice_get-remove_above_lower xs i (suc k) gt = rw (lower_above i k (omega (arith, gt))) (slice_get-remove_above xs i k (omega (arith, gt)))

  pub slice_get-remove_lower : (xs : List X) (i k : ℕ) → k ≢ i → slice_get (remove xs i) (lower i k) ≡ slice_get xs k
  slice_get-remove_lower xs i k ne = elim (cases_order k i) [
    | inl same ↦ absurd (ne same)
    | inr (inl lt) ↦ rw (lower_below i k lt) (slice_get-remove_below xs i k lt)
    | inr (inr gt) ↦ slice_get-remove_above_lower xs i k gt
  ]

pub shifted_here : (to from k : ℕ) → k ≡ from → shifted_index to from k ≡ to
shifted_here to from k h = grind (arith, nat_tests)

pub shifted_else : (to from k : ℕ) → k ≢ from → shifted_index to from k ≡ raise to (lower from k)
shifted_else to from k h = grind (arith, nat_tests)

---------------------------------------------------------------- lists that repeat nothing

-- an index of the longer list is the index of the new value, or the raised index of an old value
insert_cases : (xs : List Value) (i : ℕ) (x : Value) (k : ℕ) (v : Value) → i ≤ length xs → slice_get (insert xs i x) k ≡ Some v → ((k ≡ i) × (x ≡ v)) ⊎ ((j : ℕ) × (raise i j ≡ k) × (slice_get xs j ≡ Some v))
insert_cases xs i x k v h a = elim (cases_order k i) [
  | inl same ↦ inl (same, same_Some x v (sym (slice_get-insert_at xs i x h) ∙ subst (λ n. slice_get (insert xs i x) n ≡ Some v) same a))
  | inr (inl lt) ↦ inr (k, raise_below i k lt, sym (slice_get-insert_below xs i k x lt h) ∙ a)
  | inr (inr gt) ↦ above k v gt a
]
  where
    above : (k : ℕ) (v : Value) → i < k → slice_get (insert xs i x) k ≡ Some v → ((k ≡ i) × (x ≡ v)) ⊎ ((j : ℕ) × (raise i j ≡ k) × (slice_get xs j ≡ Some v))
    above zero v gt a = absurd (omega (arith, gt))
    above (suc k) v gt a = inr (k, raise_above i k (omega (arith, gt)), sym (slice_get-insert_above xs i k x (omega (arith, gt)) h) ∙ a)

pub distinct_insert : (xs : List Value) (i : ℕ) (x : Value) → i ≤ length xs → IsDistinct xs → ((k : ℕ) → slice_get xs k ≡ Some x → ⊥) → IsDistinct (insert xs i x)
distinct_insert xs i x h d new j k v a b =
    elim (insert_cases xs i x j v h a) [
      | inl p ↦ elim (insert_cases xs i x k v h b) [
        | inl q ↦ p.0 ∙ sym q.0
        | inr q ↦ absurd (new q.0 (q.2 ∙ ap Some (sym p.1)))
      ]
      | inr p ↦ elim (insert_cases xs i x k v h b) [
        | inl q ↦ absurd (new p.0 (p.2 ∙ ap Some (sym q.1)))
        | inr q ↦ sym p.1 ∙ ap (raise i) (d p.0 q.0 v p.2 q.2) ∙ q.1
      ]
    ]

pub insert_end_is : {X : Type 0} (xs : List X) (x : X) → insert xs (length xs) x ≡ xs ++ x ∷ []
insert_end_is [] x = refl
insert_end_is (y ∷ xs) x = ap (λ ys. y ∷ ys) (insert_end_is xs x)

pub distinct_push : (xs : List Value) (x : Value) → IsDistinct xs → ((k : ℕ) → slice_get xs k ≡ Some x → ⊥) → IsDistinct (xs ++ x ∷ [])
distinct_push xs x d new = subst (λ (ys : List Value). IsDistinct ys) (insert_end_is xs x) (distinct_insert xs (length xs) x (omega arith) d new)

-- an index of the shorter list, and the index of the same value before
remove_back : (xs : List Value) (i k : ℕ) (v : Value) → slice_get (remove xs i) k ≡ Some v → (j : ℕ) × (j ≢ i) × (lower i j ≡ k) × (slice_get xs j ≡ Some v)
remove_back xs i k v a = elim (cases_lt k i) [
  | inl lt ↦ (k, λ same. omega (arith, lt, same), lower_below i k lt, sym (slice_get-remove_below xs i k lt) ∙ a)
  | inr ge ↦ (suc k, λ same. omega (arith, ge, same), lower_above i k ge, sym (slice_get-remove_above xs i k ge) ∙ a)
]

pub distinct_remove : (xs : List Value) (i : ℕ) → IsDistinct xs → IsDistinct (remove xs i)
distinct_remove xs i d j k v a b =
    let p = remove_back xs i j v a in
    let q = remove_back xs i k v b in
    sym p.2 ∙ ap (lower i) (d p.0 q.0 v p.3 q.3) ∙ q.2

pub removed_absent : (xs : List Value) (i : ℕ) (x : Value) → IsDistinct xs → slice_get xs i ≡ Some x → (k : ℕ) → slice_get (remove xs i) k ≡ Some x → ⊥
removed_absent xs i x d here k a = let p = remove_back xs i k x a in p.1 (d p.0 i x p.3 here)

pub distinct_shifted : (xs : List Value) (to from : ℕ) → from < length xs → to < length xs → IsDistinct xs → IsDistinct (values_after_move xs to from)
distinct_shifted xs to from f t d =
    elim (slice_get xs from) as (λ o. slice_get xs from ≡ o → IsDistinct (put_back o xs to from)) [
      | None ↦ λ h. d
      | Some x ↦ λ h. distinct_insert (remove xs from) to x (omega (arith, t, length_remove xs from f)) (distinct_remove xs from d) (removed_absent xs from x d h)
    ] refl

-- a loop that writes f x over each x
pub map_more_at : {X : Type 0} (f : X → X) (xs ys : List X) (i : ℕ) (d y : X) → i < length xs → length ys ≡ length xs → ys ≡ map f (take i xs) ++ drop i xs → y ≡ f (get_or ys i d) → set ys i y ≡ map f (take (i + 1) xs) ++ drop (i + 1) xs
map_more_at f xs ys i d y lt len inv is =
    let x = get_or ys i d in
    let same : x ≡ get_or ys i x = get_or_default ys i d x (omega arith) in
    ap (set ys i) is ∙ map_over_more f xs ys i x lt inv same
