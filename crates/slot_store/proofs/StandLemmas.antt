-- Which lists have a value after an edit, and which ends are among the ends that have a node.
use Rattle.std.proofs.Common.{◌≡◌, ◌≢◌, ℕ, zero, suc, ◌<◌, ◌≤◌, true, false, List, [], ◌∷◌, ◌++◌, length, Option, Some, sym, ap, ◌∙◌, subst, inl, inr, arith}
use Rattle.std.specs.Prelude.{◌⊎◌}
use Rattle.std.specs.List.{slice_get, insert, remove}
use Rattle.std.proofs.lemmas.Bool.{false≢true, cases_lt, cases_order, or_cases, or_left}
use Rattle.std.proofs.lemmas.Option.{same_Some, slice_get_within}
use Rattle.mm_types.specs.Lists.{put_back, values_after_move}
use Rattle.mm_types.specs.Same.{same_end}
use Rattle.mm_types.specs.declared.end.End.{End}
use Rattle.mm_types.specs.declared.value.Value.{Value}
use Rattle.mm_types.proofs.SameLemmas.{same_end-true, same_end-self}
use Rattle.links.specs.Plans.{has_end}
use Rattle.links.proofs.EntriesLemmas.{has_end_right, has_end_cases}
use Rattle.links.proofs.ListLemmas.{insert_end_is, slice_get-insert_below, slice_get-insert_at, slice_get-insert_above, slice_get-remove_below, slice_get-remove_above, length_remove}
use Rattle.slot_store.specs.CellLinks.{HasValue}

module _ (xs : List Value) (i : ℕ) (w : Value) (le : i ≤ length xs) where
  pub HasValue_insert_new : HasValue (insert xs i w) w
  HasValue_insert_new = (i, slice_get-insert_at xs i w le)

  pub HasValue_insert_old : (v : Value) → HasValue xs v → HasValue (insert xs i w) v
  HasValue_insert_old v (k, h) = elim (cases_lt k i) [
    | inl lt ↦ (k, slice_get-insert_below xs i k w lt le ∙ h)
    | inr ge ↦ (suc k, slice_get-insert_above xs i k w (omega (arith, ge)) le ∙ h)
  ]

  pub HasValue-insert : (v : Value) → HasValue (insert xs i w) v → (v ≡ w) ⊎ HasValue xs v
  HasValue-insert v (k, h) = elim (cases_order k i) [
    | inl same ↦ inl (same_Some v w (sym h ∙ ap (λ (j : ℕ). slice_get (insert xs i w) j) same ∙ slice_get-insert_at xs i w le))
    | inr (inl lt) ↦ inr (k, sym (slice_get-insert_below xs i k w lt le) ∙ h)
    | inr (inr gt) ↦ inr (before k gt h)
  ]
    where
      before : (k : ℕ) → i < k → slice_get (insert xs i w) k ≡ Some v → HasValue xs v
      before zero gt h = absurd (omega (arith, gt))
      before (suc k) gt h = (k, sym (slice_get-insert_above xs i k w (omega (arith, gt)) le) ∙ h)

pub HasValue-push : (xs : List Value) (w v : Value) → HasValue (xs ++ w ∷ []) v → (v ≡ w) ⊎ HasValue xs v
HasValue-push xs w v h = HasValue-insert xs (length xs) w (omega arith) v (subst (λ (ys : List Value). HasValue ys v) (sym (insert_end_is xs w)) h)

module _ (xs : List Value) (i : ℕ) where
  pub HasValue-remove : (v : Value) → HasValue (remove xs i) v → HasValue xs v
  HasValue-remove v (k, h) = elim (cases_lt k i) [
    | inl lt ↦ (k, sym (slice_get-remove_below xs i k lt) ∙ h)
    | inr ge ↦ (suc k, sym (slice_get-remove_above xs i k (omega (arith, ge))) ∙ h)
  ]

  pub HasValue_remove_at : (v : Value) (k : ℕ) → k ≢ i → slice_get xs k ≡ Some v → HasValue (remove xs i) v
  HasValue_remove_at v k ne h = elim (cases_order k i) [
    | inl same ↦ absurd (ne same)
    | inr (inl lt) ↦ (k, slice_get-remove_below xs i k lt ∙ h)
    | inr (inr gt) ↦ after k gt h
  ]
    where
      after : (k : ℕ) → i < k → slice_get xs k ≡ Some v → HasValue (remove xs i) v
      after zero gt h = absurd (omega (arith, gt))
      after (suc k) gt h = (k, slice_get-remove_above xs i k (omega (arith, gt)) ∙ h)

  pub HasValue_remove : (v w : Value) → slice_get xs i ≡ Some w → v ≢ w → HasValue xs v → HasValue (remove xs i) v
  HasValue_remove v w at ne (k, h) = HasValue_remove_at v k (λ same. ne (same_Some v w (sym h ∙ ap (λ (j : ℕ). slice_get xs j) same ∙ at))) h

-- a shift keeps the values of the list
module _ (xs : List Value) (to from : ℕ) (w : Value) (at : slice_get xs from ≡ Some w) (lt : to < length xs) where
  fits : to ≤ length (remove xs from)
  fits = omega (arith, lt, length_remove xs from (slice_get_within xs from w at))

  is : values_after_move xs to from ≡ insert (remove xs from) to w
  is = ap (λ (o : Option Value). put_back o xs to from) at

  pub HasValue-values_after_move : (v : Value) → HasValue (values_after_move xs to from) v → HasValue xs v
  HasValue-values_after_move v h = elim (HasValue-insert (remove xs from) to w fits v (subst (λ (ys : List Value). HasValue ys v) is h)) [
    | inl same ↦ (from, at ∙ ap Some (sym same))
    | inr old ↦ HasValue-remove xs from v old
  ]

  pub HasValue_shifted : (v : Value) → HasValue xs v → HasValue (values_after_move xs to from) v
  HasValue_shifted v (k, h) = subst (λ (ys : List Value). HasValue ys v) (sym is) (elim (cases_order k from) [
    | inl same ↦ subst (λ (x : Value). HasValue (insert (remove xs from) to w) x) (same_Some w v (sym at ∙ ap (λ (j : ℕ). slice_get xs j) (sym same) ∙ h)) (HasValue_insert_new (remove xs from) to w fits)
    | inr (inl below) ↦ HasValue_insert_old (remove xs from) to w fits v (HasValue_remove_at xs from v k (λ same. omega (arith, same, below)) h)
    | inr (inr above) ↦ HasValue_insert_old (remove xs from) to w fits v (HasValue_remove_at xs from v k (λ same. omega (arith, same, above)) h)
  ])

---------------------------------------------------------------- ends

pub has_end_new : (ds : List End) (d : End) → has_end (ds ++ d ∷ []) d ≡ true
has_end_new ds d = has_end_right ds (d ∷ []) d (or_left _ _ (same_end-self d))

pub has_end-push : (ds : List End) (d x : End) → has_end (ds ++ d ∷ []) x ≡ true → (has_end ds x ≡ true) ⊎ (d ≡ x)
has_end-push ds d x h = elim (has_end_cases ds (d ∷ []) x h) [
  | inl old ↦ inl old
  | inr new ↦ elim (or_cases (same_end d x) false new) [ inl is ↦ inr (same_end-true d x is) | inr f ↦ absurd (false≢true f) ]
]
