-- Lists in which one value is written over.
use Rattle.std.proofs.Common.{◌≡◌, ◌∙◌, ℕ, zero, suc, Bool, true, false, ◌||◌, List, [], ◌∷◌, Some, map, slice_get, slice_set, arith, refl, sym, ap}
use Rattle.std.proofs.lemmas.Bool.{false≢true}
use Rattle.std.proofs.lemmas.Option.{none-some, same_Some}
use Rattle.mm_types.specs.Ends.{has_value, index_in}
use Rattle.mm_types.specs.Lookups as lookups
use Rattle.mm_types.specs.Same.{same_value}
use Rattle.mm_types.specs.declared.numbers.ObjectNo.{ObjectNo}
use Rattle.mm_types.specs.declared.value.Value.{Value}
use Rattle.mm_types.specs.declared.value.Value.TheVariants as value
use Rattle.models.proofs.PlaceLemmas.{index-at}

-- writing a value of the same name over another one changes no name
pub set-name : {X Y : Type 0} (g : X → Y) (xs : List X) (i : ℕ) (x y : X) → slice_get xs i ≡ Some x → g y ≡ g x → map g (slice_set xs i y) ≡ map g xs
set-name g [] i x y here same = absurd (none-some x here)
set-name g (z ∷ zs) zero x y here same = let one = same ∙ ap g (sym (same_Some z x here)) in λ j. one j ∷ map g zs
set-name g (z ∷ zs) (suc i) x y here same = ap (λ ys. g z ∷ ys) (set-name g zs i x y here same)

-- it does not change whether a third value is in the list
pub set-other : (vs : List Value) (i : ℕ) (old v z : Value) → slice_get vs i ≡ Some old → same_value z old ≡ false → same_value z v ≡ false → has_value (slice_set vs i v) z ≡ has_value vs z
set-other [] i old v z here first second = absurd (none-some old here)
set-other (w ∷ ws) zero old v z here first second =
    ap (λ (b : Bool). b || has_value ws z) (second ∙ sym (ap (same_value z) (same_Some w old here) ∙ first))
set-other (w ∷ ws) (suc i) old v z here first second = ap (λ (b : Bool). same_value z w || b) (set-other ws i old v z here first second)

-- a value that was overwritten is no longer in the list, if it was there once
pub data IsSet (vs : List Value) (i : ℕ) (v x : Value) (k : ℕ) : Type 0 where
  New : x ≡ v → IsSet vs i v x k
  Old : (k ≡ i → ⊥) → slice_get vs k ≡ Some x → IsSet vs i v x k

pub set-at : (vs : List Value) (i : ℕ) (v x : Value) (k : ℕ) → slice_get (slice_set vs i v) k ≡ Some x → IsSet vs i v x k
set-at [] i v x k at = absurd (none-some x at)
set-at (w ∷ ws) zero v x zero at = New (sym (same_Some v x at))
set-at (w ∷ ws) zero v x (suc k) at = Old (λ q. omega (arith, q)) at
set-at (w ∷ ws) (suc i) v x zero at = Old (λ q. omega (arith, q)) at
set-at (w ∷ ws) (suc i) v x (suc k) at = by (set-at ws i v x k at)
  where
    by : IsSet ws i v x k → IsSet (w ∷ ws) (suc i) v x (suc k)
    by (New is) = New is
    by (Old other here) = Old (λ q. other (let e : k ≡ i = omega (arith, q) in e)) here

pub set-gone : (vs : List Value) (i : ℕ) (old v : Value) → ((j k : ℕ) (x : Value) → slice_get vs j ≡ Some x → slice_get vs k ≡ Some x → j ≡ k) → slice_get vs i ≡ Some old → (old ≡ v → ⊥) → has_value (slice_set vs i v) old ≡ false
set-gone vs i old v distinct here other =
    elim (has_value (slice_set vs i v) old) as (λ b. has_value (slice_set vs i v) old ≡ b → b ≡ false) [
      | true ↦ λ h. absurd (by (set-at vs i v old (index_in (slice_set vs i v) old) (index-at (slice_set vs i v) old h)))
      | false ↦ λ _. refl
    ] refl
  where
    by : {k : ℕ} → IsSet vs i v old k → ⊥
    by {k} (New is) = other is
    by {k} (Old apart at) = apart (distinct k i old at here)

pub proxy-object : (t : List ℕ) (o : ObjectNo) → value.Proxy t ≡ value.Object o → ⊥
proxy-object t o same = false≢true (ap lookups.is_object same)
