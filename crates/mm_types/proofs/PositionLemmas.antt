-- The position of the first element of a list that passes a test.
use Rattle.std.proofs.Common.{◌≡◌, ◌∙◌, ◌+◌, suc, Bool, true, false, cond, nat_lt, List, ◌∷◌, length, position, Some, None, option_map, refl, ap, arith, le-leb}
use Rattle.std.specs.List.{position_or_len}
use Rattle.std.proofs.lemmas.Bool.{le-ltb, lt-ltb, ltb-false, ltb-true}

pub position-first : {X : Type 0} (p : X → Bool) (x : X) (xs : List X) → p x ≡ true → position p (x ∷ xs) ≡ Some 0
position-first p x xs h =
    let more : nat_lt 0 (length (x ∷ xs)) ≡ true = le-leb _ _ (omega arith) in
    rw (h, more) refl

pub position-rest : {X : Type 0} (p : X → Bool) (x : X) (xs : List X) → p x ≡ false → position p (x ∷ xs) ≡ option_map suc (position p xs)
position-rest p x xs h =
    let k = position_or_len p xs in
    let later : position p (x ∷ xs) ≡ cond (nat_lt (1 + k) (suc (length xs))) (Some (1 + k)) None = rw h refl in
    later ∙ elim (nat_lt k (length xs)) as (λ b. nat_lt k (length xs) ≡ b → cond (nat_lt (1 + k) (suc (length xs))) (Some (1 + k)) None ≡ option_map suc (cond b (Some k) None)) [
      | true ↦ λ q. let inside : nat_lt (1 + k) (suc (length xs)) ≡ true = lt-ltb _ _ (omega (arith, ltb-true k (length xs) q)) in
          let next : 1 + k ≡ suc k = omega arith in
          rw inside (ap Some next)
      | false ↦ λ q. let past : nat_lt (1 + k) (suc (length xs)) ≡ false = le-ltb _ _ (omega (arith, ltb-false k (length xs) q)) in
          rw past refl
    ] refl
