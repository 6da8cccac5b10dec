-- The values of ends after a value replaces another one.
use Rattle.std.proofs.Common.{◌≡◌, inl, inr, ℕ, zero, suc, true, false, List, [], ◌∷◌, Some, length, slice_get, if◌then◌else◌, refl, ap}
use Rattle.std.specs.Prelude.{◌⊎◌, slice_set}
use Rattle.std.proofs.lemmas.List.{length-set}
use Rattle.std.proofs.lemmas.Option.{none-some}
use Rattle.mm_types.specs.Same.{same_end}
use Rattle.mm_types.specs.declared.end.End.{End}
use Rattle.mm_types.specs.declared.value.Value.{Value}
use Rattle.proxies.specs.ResolvingAll.{ends_after_replace}

-- each value is as it was, or is the one that replaces it
pub get-set : (vs : List Value) (i : ℕ) (w v : Value) → slice_get vs i ≡ Some v → (j : ℕ) → ((j ≡ i) × (slice_get (slice_set vs i w) j ≡ Some w)) ⊎ (slice_get (slice_set vs i w) j ≡ slice_get vs j)
get-set [] i w v at j = absurd (none-some v at)
get-set (x ∷ xs) zero w v at zero = inl (refl, refl)
get-set (x ∷ xs) zero w v at (suc j) = inr refl
get-set (x ∷ xs) (suc i) w v at zero = inr refl
get-set (x ∷ xs) (suc i) w v at (suc j) = elim (get-set xs i w v at j) [ inl h ↦ inl (ap suc h.0, h.1) | inr h ↦ inr h ]

-- each end has as many values as before
pub ends_after_replace-length : (ends : End → List Value) (e : End) (i : ℕ) (v : Value) (d : End) → length (ends_after_replace ends e i v d) ≡ length (ends d)
ends_after_replace-length ends e i v d = elim (same_end e d) as (λ b. length (if b then slice_set (ends d) i v else ends d) ≡ length (ends d)) [ true ↦ length-set (ends d) i v | false ↦ refl ]
