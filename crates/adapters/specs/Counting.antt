-- The capacity of an adapter that needs no memory to be notified, and what its `reserve` returns.
use Rattle.std.specs.Prelude.{◌≡◌, ◌↔◌, ℕ, ◌+◌, ◌-◌, ◌^◌, ◌<◌, ◌≤◌, Result, OnOk, IsErrOf, ⊤}
use Rattle.adapters.specs.declared.adapter.NoRoom.{NoRoom}
use Rattle.adapters.specs.declared.adapter.NoRoom.TheVariants.{Full, Memory}

-- how many more notifications an adapter can count, after it counted `told` notifications
abbrev pub places_left : ℕ → ℕ
places_left told = 2 ^ 64 - (told + 1)

-- what `reserve` for `n` more notifications does; `old` and `new` are the adapter before and after the call, and `told` gives how many
-- notifications an adapter got. The adapter stays as it is. The result is `Full` exactly if the adapter can't count `n` more notifications,
-- and is never `Memory`. The number of notifications that the adapter got is below 2^64
abbrev pub IsCounted : {X : Type 0} → (X → ℕ) → ℕ → X → X → Result ⊤ NoRoom → Type 0
IsCounted told n old new result =
    OnOk result (told old + n < 2 ^ 64) × (IsErrOf result Full ↔ (2 ^ 64 ≤ told old + n)) × (IsErrOf result Memory → ⊥) × (new ≡ old) × (told new < 2 ^ 64)
