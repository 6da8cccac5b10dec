-- Lists of at most one value.
use Rattle.std.proofs.Common.{◌≡◌, ℕ, zero, suc, ◌<◌, List, [], ◌∷◌, length, Box, Global, refl, ap, ◌∙◌, arith}
use Rattle.slot_lists.specs.declared.short_list.Layout.{Layout}
use Rattle.slot_lists.specs.declared.short_list.Layout.TheVariants.{Empty, One, Many}
use Rattle.slot_lists.specs.declared.slot_list.SlotList.{SlotList}
use Rattle.slot_lists.specs.Moved.{list_after_move}
use Rattle.slot_lists.specs.ShortList.{short_places}

-- the only value of a list has no other index
moved_one : {T : Type 0} (v : T) (to from : ℕ) → to < 1 → from < 1 → v ∷ [] ≡ list_after_move (v ∷ []) to from
moved_one v zero zero to_lt from_lt = refl
moved_one v zero (suc from) to_lt from_lt = absurd (omega (arith, from_lt))
moved_one v (suc to) from to_lt from_lt = absurd (omega (arith, to_lt))

-- so a list without a `Box` is as it was after each move
pub lone-list_after_move : {T : Type 0} (l : Layout T) (xs : List T) (to from : ℕ) → ((b : Box (SlotList T) Global) → l ≡ Many b → ⊥) → (short_places l).items ≡ xs → to < length xs → from < length xs → (short_places l).items ≡ list_after_move xs to from
lone-list_after_move Empty xs to from none is to_lt from_lt =
    let long = ap length is in
    absurd (omega (arith, long, to_lt))
lone-list_after_move (One v) xs to from none is to_lt from_lt =
    let long = ap length is in
    moved_one v to from (omega (arith, long, to_lt)) (omega (arith, long, from_lt)) ∙ ap (λ ys. list_after_move ys to from) is
lone-list_after_move (Many b) xs to from none is to_lt from_lt = absurd (none b refl)
