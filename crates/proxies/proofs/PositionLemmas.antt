-- The position of the first value that passes a test.
use Rattle.std.proofs.Common.{◌≡◌, ℕ, zero, suc, ◌<◌, Bool, true, false, List, [], ◌∷◌, length, slice_get, Option, Some, None, option_map, refl, sym, ap, ◌∙◌, subst, arith}
use Rattle.std.specs.Prelude.{cond, position}
use Rattle.std.proofs.lemmas.Option.{none-some, same_Some}
use Rattle.doc_parts.proofs.WayLemmas.{position_cons}
use Rattle.mm_types.specs.declared.value.Value.{Value}

-- no value before an index passes
abbrev pub NonePass : (Value → Bool) → List Value → ℕ → Type 0
NonePass p vs n = (k : ℕ) (v : Value) → k < n → slice_get vs k ≡ Some v → p v ≡ false

later : (p : Value → Bool) (w : Value) (ws : List Value) (n : ℕ) → NonePass p (w ∷ ws) (suc n) → NonePass p ws n
later p w ws n none k v low at = none (suc k) v (omega (arith, low)) at

passed : (p : Value → Bool) (w : Value) (ws : List Value) → p w ≡ false → position p (w ∷ ws) ≡ option_map suc (position p ws)
passed p w ws fails = position_cons p w ws ∙ ap (λ (b : Bool). cond b (Some 0) (option_map suc (position p ws))) fails

pub position-first : (p : Value → Bool) (vs : List Value) (j : ℕ) (v : Value) → slice_get vs j ≡ Some v → p v ≡ true → NonePass p vs j → position p vs ≡ Some j
position-first p [] j v at passes none = absurd (none-some v at)
position-first p (w ∷ ws) zero v at passes none = position_cons p w ws ∙ ap (λ (b : Bool). cond b (Some 0) (option_map suc (position p ws))) (ap p (same_Some w v at) ∙ passes)
position-first p (w ∷ ws) (suc j) v at passes none =
    passed p w ws (none 0 w (omega arith) refl) ∙ ap (option_map suc) (position-first p ws j v at passes (later p w ws j none))

pub position-none : (p : Value → Bool) (vs : List Value) → NonePass p vs (length vs) → position p vs ≡ None
position-none p [] none = refl
position-none p (w ∷ ws) none = passed p w ws (none 0 w (omega arith) refl) ∙ ap (option_map suc) (position-none p ws (later p w ws (length ws) none))

-- a value is at an index, and passes
abbrev pub Passes : (Value → Bool) → List Value → ℕ → Type 0
Passes p vs j = (v : Value) × (slice_get vs j ≡ Some v) × (p v ≡ true)

behind : (p : Value → Bool) (w : Value) (ws : List Value) (j : ℕ) (q : Option ℕ) → ((k : ℕ) → q ≡ Some k → Passes p ws k) → option_map suc q ≡ Some j → Passes p (w ∷ ws) j
behind p w ws j None rest is = absurd (none-some j is)
behind p w ws j (Some k) rest is = subst (Passes p (w ∷ ws)) (same_Some (suc k) j is) (rest k refl)

pub position-passes : (p : Value → Bool) (vs : List Value) (j : ℕ) → position p vs ≡ Some j → Passes p vs j
position-passes p [] j h = absurd (none-some j h)
position-passes p (w ∷ ws) j h =
    elim (p w) as (λ b. p w ≡ b → cond b (Some 0) (option_map suc (position p ws)) ≡ Some j → Passes p (w ∷ ws) j) [
      | true ↦ λ passes first. subst (Passes p (w ∷ ws)) (same_Some 0 j first) (w, refl, passes)
      | false ↦ λ _ later. behind p w ws j (position p ws) (λ k is. position-passes p ws k is) later
    ] refl (sym (position_cons p w ws) ∙ h)
