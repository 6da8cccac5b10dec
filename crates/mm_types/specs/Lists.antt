-- Lists of values after a move.
use Rattle.std.specs.Prelude.{ℕ, List, insert, remove, slice_get, Option, Some, None}
use Rattle.mm_types.specs.declared.value.Value.{Value}

-- the list vs after its value v, which is at `from`, is taken out and inserted at `to`; vs itself if no value is given. The index `to` is
-- counted in the list without v
abbrev pub put_back : Option Value → List Value → ℕ → ℕ → List Value
put_back None vs to from = vs
put_back (Some v) vs to from = insert (remove vs from) to v

-- the list vs after its value at `from` is taken out and inserted at `to`, counted in the list without this value; vs itself if there is no
-- value at `from`
abbrev pub values_after_move : List Value → ℕ → ℕ → List Value
values_after_move vs to from = put_back (slice_get vs from) vs to from
