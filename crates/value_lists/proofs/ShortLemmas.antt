-- Lists of at most one value.
use Rattle.std.proofs.Common.{◌≡◌, ℕ, zero, suc, ◌<◌, [], ◌∷◌, refl, arith}
use Rattle.slot_lists.specs.Moved.{list_after_move}
use Rattle.mm_types.specs.declared.value.Value.{Value}

-- the only value of a list has no other index
pub moved_one : (v : Value) (to from : ℕ) → to < 1 → from < 1 → v ∷ [] ≡ list_after_move (v ∷ []) to from
moved_one v zero zero to_lt from_lt = refl
moved_one v zero (suc from) to_lt from_lt = absurd (omega (arith, from_lt))
moved_one v (suc to) from to_lt from_lt = absurd (omega (arith, to_lt))
