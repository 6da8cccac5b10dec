-- The first number of which a fact holds.
use Rattle.std.specs.Prelude.{ℕ, ◌<◌, Option, MatchOption}

-- P holds of no number below n
abbrev pub HoldsOfNone : (ℕ → Type 0) → ℕ → Type 0
HoldsOfNone P n = (k : ℕ) → k < n → P k → ⊥

-- the first number below n of which P holds, or none
abbrev pub IsFirst : (ℕ → Type 0) → ℕ → Option ℕ → Type 0
IsFirst P n found = MatchOption found (HoldsOfNone P n) (λ c. (c < n) × P c × HoldsOfNone P c)
