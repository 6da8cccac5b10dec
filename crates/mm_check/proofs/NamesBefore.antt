-- Names among the first of a list, by the first position at which they are.
use Rattle.std.proofs.Common.{◌≡◌, ◌∙◌, ◌+◌, ◌≤◌, ◌||◌, ℕ, zero, suc, Bool, true, false, cond, List, [], ◌∷◌, Option, Some, ap, arith, map, refl, sym, take, nat_lt}
use Rattle.std.specs.Prelude.{is_some, position}
use Rattle.std.specs.List.{list_any, position_from}
use Rattle.std.specs.Option.{option_map_or}
use Rattle.std.specs.Str.{bytes_eq}
use Rattle.std.proofs.lemmas.Bool.Decides.{Decides-like, nat_tests, same_from_decides}
use Rattle.std.proofs.lemmas.Iterator.Adapters.{position_from-zero}
use Rattle.std.proofs.lemmas.Slice.Eq.{bytes_eq-Decides}
use Rattle.std.proofs.lemmas.Bool.{lt-ltb}
use Rattle.mm_types.specs.Names.{is_among}

flip : (a b : List ℕ) → bytes_eq a b ≡ bytes_eq b a
flip a b = same_from_decides (bytes_eq a b) (bytes_eq b a) (bytes_eq-Decides a b) (Decides-like {P = b ≡ a} {Q = a ≡ b} (bytes_eq b a) (λ e. sym e) (λ e. sym e) (bytes_eq-Decides b a))

not_less : (a b : ℕ) → b ≤ a → nat_lt a b ≡ false
not_less a b h = grind (arith, nat_tests)

-- a position is at least where the list starts
late : {X : Type 0} (p : X → Bool) (k s : ℕ) (xs : List X) → k ≤ s → option_map_or (λ j. nat_lt j k) (position_from p s xs) false ≡ false
late p k s [] h = refl
late p k s (x ∷ xs) h =
    elim (p x) as (λ b. option_map_or (λ j. nat_lt j k) (cond b (Some s) (position_from p (s + 1) xs)) false ≡ false) [
      | true ↦ not_less s k h
      | false ↦ late p k (s + 1) xs (omega arith)
    ]

before_from : {X : Type 0} (f : X → List ℕ) (n : List ℕ) (k i m : ℕ) (xs : List X) → k + i ≡ m
    → list_any (bytes_eq n) (take i (map f xs)) ≡ option_map_or (λ j. nat_lt j m) (position_from (λ x. bytes_eq (f x) n) k xs) false
before_from f n k zero m [] e = refl
before_from f n k (suc i) m [] e = refl
before_from f n k zero m (x ∷ xs) e = sym (late (λ x. bytes_eq (f x) n) m k (x ∷ xs) (omega arith))
before_from f n k (suc i) m (x ∷ xs) e =
    rw (flip n (f x))
    (elim (bytes_eq (f x) n) as (λ b. (b || list_any (bytes_eq n) (take i (map f xs))) ≡ option_map_or (λ j. nat_lt j m) (cond b (Some k) (position_from (λ x. bytes_eq (f x) n) (k + 1) xs)) false) [
      | true ↦ sym (lt-ltb k m (omega arith))
      | false ↦ before_from f n (k + 1) i m xs (omega arith)
    ])

any_from : {X : Type 0} (f : X → List ℕ) (n : List ℕ) (k : ℕ) (xs : List X) → list_any (bytes_eq n) (map f xs) ≡ is_some (position_from (λ x. bytes_eq (f x) n) k xs)
any_from f n k [] = refl
any_from f n k (x ∷ xs) =
    rw (flip n (f x))
    (elim (bytes_eq (f x) n) as (λ b. (b || list_any (bytes_eq n) (map f xs)) ≡ is_some (cond b (Some k) (position_from (λ x. bytes_eq (f x) n) (k + 1) xs))) [
      | true ↦ refl
      | false ↦ any_from f n (k + 1) xs
    ])

-- a name is among the first i exactly if its first position is below i
pub among_before : {X : Type 0} (f : X → List ℕ) (n : List ℕ) (i : ℕ) (xs : List X) (o : Option ℕ) → o ≡ position (λ x. bytes_eq (f x) n) xs
    → option_map_or (λ j. nat_lt j i) o false ≡ is_among (take i (map f xs)) n
among_before f n i xs o is =
    ap (λ (q : Option ℕ). option_map_or (λ j. nat_lt j i) q false) (is ∙ position_from-zero (λ x. bytes_eq (f x) n) xs) ∙ sym (before_from f n 0 i i xs (omega arith))

pub among_all : {X : Type 0} (f : X → List ℕ) (n : List ℕ) (xs : List X) (o : Option ℕ) → o ≡ position (λ x. bytes_eq (f x) n) xs → is_some o ≡ is_among (map f xs) n
among_all f n xs o is = ap is_some (is ∙ position_from-zero (λ x. bytes_eq (f x) n) xs) ∙ sym (any_from f n 0 xs)
