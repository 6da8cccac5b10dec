-- A list after a move within it or past its end.
use Rattle.std.proofs.Common.{◌≡◌, ℕ, ◌-◌, ◌<◌, ◌≤◌, min, List, ◌∷◌, length, Option, Some, None, unwrap_or, refl, sym, ap}
use Rattle.std.specs.Prelude.{IsPermutation}
use Rattle.std.specs.List.{insert, remove, slice_get}
use Rattle.std.specs.Option.{option_map}
use Rattle.std.proofs.lemmas.List.Sorted.{IsPermutation-insert, IsPermutation-refl, IsPermutation-remove, IsPermutation-trans}
use Rattle.std.proofs.lemmas.Option.{get_or_from_slice_get, slice_get_past, slice_get_within}
use Rattle.slot_lists.specs.Moved.{list_after_move}
use Rattle.slot_lists.proofs.MoveLemmas.{list_after_move-back}
use Rattle.mm_types.specs.Lists.{put_back, values_after_move}
use Rattle.mm_types.specs.declared.value.Value.{Value}

-- a move within the list is `values_after_move`
pub list_after_move-values_after_move : (xs : List Value) (to from : ℕ) → from < length xs → list_after_move xs (min to (length xs - 1)) from ≡ values_after_move xs to from
list_after_move-values_after_move xs to from lt = list_after_move-back (λ o. put_back o xs to from) xs to from lt refl (λ x. refl)

-- past the end nothing moves
pub shifted_past : (xs : List Value) (to from : ℕ) → length xs ≤ from → xs ≡ values_after_move xs to from
shifted_past xs to from le = sym (ap (λ o. put_back o xs to from) (slice_get_past xs from le))

-- a move keeps the elements
pub list_after_move-same : {X : Type 0} (xs : List X) (to from : ℕ) → IsPermutation xs (list_after_move xs to from)
list_after_move-same {X} xs to from = at (slice_get xs from) refl
  where
    at : (o : Option X) → slice_get xs from ≡ o → IsPermutation xs (unwrap_or (option_map (insert (remove xs from) to) o) xs)
    at None q = IsPermutation-refl xs
    at (Some x) q =
        IsPermutation-trans xs (x ∷ remove xs from) _ (IsPermutation-remove xs from x (slice_get_within xs from x q) (sym (get_or_from_slice_get xs from x x q)))
        (IsPermutation-insert (remove xs from) to x)
