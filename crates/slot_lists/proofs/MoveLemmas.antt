-- A list after a move, if the new index is cut at the end of the list.
use Rattle.std.proofs.Common.{◌≡◌, ℕ, zero, suc, ◌-◌, ◌<◌, ◌≤◌, min, List, [], length, Option, Some, None, refl, sym, ap, ◌∙◌, arith, unwrap_or, inl, inr}
use Rattle.std.specs.Option.{option_map}
use Rattle.std.specs.List.{insert, remove, slice_get}
use Rattle.std.proofs.lemmas.List.Edits.{length-remove}
use Rattle.std.proofs.lemmas.List.{take_all, drop_all}
use Rattle.std.proofs.lemmas.Bool.{cases_lt}
use Rattle.slot_lists.specs.Moved.{list_after_move}

-- an insert past the end puts the value last
insert_past : {X : Type 0} (xs : List X) (i : ℕ) (x : X) → length xs ≤ i → insert xs i x ≡ insert xs (length xs) x
insert_past xs i x le = rw (take_all i xs le, drop_all i xs le, take_all (length xs) xs (omega arith), drop_all (length xs) xs (omega arith)) refl

-- so the index of an insert may be cut at the end
insert_min : {X : Type 0} (xs : List X) (i n : ℕ) (x : X) → length xs ≡ n → insert xs (min i n) x ≡ insert xs i x
insert_min xs i n x long = elim (cases_lt i n) [
  | inl within ↦ let cut : min i n ≡ i = omega arith in ap (λ k. insert xs k x) cut
  | inr past ↦ let cut : min i n ≡ length xs = omega arith in ap (λ k. insert xs k x) cut ∙ sym (insert_past xs i x (omega arith))
]

to_last : {X : Type 0} (xs : List X) (to from : ℕ) (x : X) → from < length xs → insert (remove xs from) (min to (length xs - 1)) x ≡ insert (remove xs from) to x
to_last xs to from x lt =
    let long : length (remove xs from) ≡ length xs - 1 = omega (arith, length-remove xs from lt) in
    insert_min (remove xs from) to (length xs - 1) x long

taken_back : {X : Type 0} (back : Option X → List X) (xs : List X) (to from : ℕ) (o : Option X) → from < length xs → back None ≡ xs → ((x : X) → back (Some x) ≡ insert (remove xs from) to x) → unwrap_or (option_map (insert (remove xs from) (min to (length xs - 1))) o) xs ≡ back o
taken_back back xs to from None lt none some = sym none
taken_back back xs to from (Some x) lt none some = to_last xs to from x lt ∙ sym (some x)

-- `back` puts a value that was taken out of a list back at `to`, or at the end if `to` is past it: a move that is cut at the end does the
-- same
pub list_after_move-back : {X : Type 0} (back : Option X → List X) (xs : List X) (to from : ℕ) → from < length xs → back None ≡ xs → ((x : X) → back (Some x) ≡ insert (remove xs from) to x) → list_after_move xs (min to (length xs - 1)) from ≡ back (slice_get xs from)
list_after_move-back back xs to from = taken_back back xs to from (slice_get xs from)

pub remove_nothing : {X : Type 0} (i : ℕ) → remove {X = X} [] i ≡ []
remove_nothing zero = refl
remove_nothing (suc i) = refl
