-- Tests of the items of lists, and of items with their positions.
use Rattle.std.proofs.Common.{◌≡◌, ◌∙◌, ◌+◌, ◌<◌, ◌++◌, Bool, true, false, List, [], ◌∷◌, ℕ, zero, suc, ap, arith, eq-eqb, get_or, length, nat_eq, refl, sym, take}
use Rattle.std.specs.Prelude.{◌&&◌, ◌||◌, slice_get}
use Rattle.std.specs.List.{enumerate_from, list_any}
use Rattle.std.specs.Option.{option_map_or}
use Rattle.std.proofs.lemmas.List.{length-take-le, take_more}
use Rattle.std.proofs.lemmas.Bool.Decides.{Decides-eqb}
use Rattle.std.proofs.Math.Bool.{or-false}
use Rattle.resource_docs.proofs.ReadingLemmas.{any-push, enumerate-push}

-- positions that are not read
pub any-numbered : {X : Type 0} (p : X → Bool) (n : ℕ) (xs : List X) → list_any (λ y. p y.1) (enumerate_from n xs) ≡ list_any p xs
any-numbered p n [] = refl
any-numbered p n (x ∷ xs) = ap (λ b. p x || b) (any-numbered p (n + 1) xs)

pub any-pulled : {X : Type 0} (a : Bool) (p : X → Bool) (xs : List X) → list_any (λ x. a && p x) xs ≡ a && list_any p xs
any-pulled true p xs = refl
any-pulled false p [] = refl
any-pulled false p (x ∷ xs) = any-pulled false p xs

pub any_numbered-more : {X : Type 0} (p : ℕ × X → Bool) (xs : List X) (i : ℕ) (x : X) → i < length xs → x ≡ get_or xs i x
    → list_any p (enumerate_from 0 (take (i + 1) xs)) ≡ list_any p (enumerate_from 0 (take i xs)) || p (i, x)
any_numbered-more p xs i x below is =
    ap (λ ys. list_any p (enumerate_from 0 ys)) (take_more xs i x below ∙ ap (λ y. take i xs ++ y ∷ []) (sym is))
    ∙ ap (list_any p) (enumerate-push 0 (take i xs) x)
    ∙ any-push p (enumerate_from 0 (take i xs)) (0 + length (take i xs), x)
    ∙ ap (λ k. list_any p (enumerate_from 0 (take i xs)) || p (k, x)) (let e = length-take-le i xs (omega (arith, below)) in omega (arith, e))

---------------------------------------------------------------- the item at a position

pub differ : (i j : ℕ) → i < j → nat_eq i j ≡ false
differ i j less = by _ refl
  where
    by : (b : Bool) → nat_eq i j ≡ b → b ≡ false
    by false e = refl
    by true e = let h = (Decides-eqb i j).0 e in absurd (omega (arith, h, less))

none-before : {X : Type 0} (q : X → Bool) (o n : ℕ) (xs : List X) → o < n → list_any (λ y. nat_eq o y.0 && q y.1) (enumerate_from n xs) ≡ false
none-before q o n [] less = refl
none-before q o n (x ∷ xs) less = ap (λ b. (b && q x) || list_any (λ y. nat_eq o y.0 && q y.1) (enumerate_from (n + 1) xs)) (differ o n less) ∙ none-before q o (n + 1) xs (omega (arith, less))

more_than : (n i : ℕ) → nat_eq (n + suc i) n ≡ false
more_than n i = by _ refl
  where
    by : (b : Bool) → nat_eq (n + suc i) n ≡ b → b ≡ false
    by false e = refl
    by true e = let h = (Decides-eqb (n + suc i) n).0 e in absurd (omega (arith, h))

pub any-at : {X : Type 0} (q : X → Bool) (n j : ℕ) (xs : List X) → list_any (λ y. nat_eq (n + j) y.0 && q y.1) (enumerate_from n xs) ≡ option_map_or q (slice_get xs j) false
any-at q n j [] = refl
any-at q n zero (x ∷ xs) =
    let here : nat_eq (n + 0) n ≡ true = eq-eqb (n + 0) n (omega arith) in
    ap (λ b. (b && q x) || list_any (λ y. nat_eq (n + 0) y.0 && q y.1) (enumerate_from (n + 1) xs)) here
    ∙ ap (λ b. q x || b) (none-before q (n + 0) (n + 1) xs (omega arith))
    ∙ or-false (q x)
any-at q n (suc i) (x ∷ xs) =
    ap (λ b. (b && q x) || list_any (λ y. nat_eq (n + suc i) y.0 && q y.1) (enumerate_from (n + 1) xs)) (more_than n i)
    ∙ ap (λ k. list_any (λ y. nat_eq k y.0 && q y.1) (enumerate_from (n + 1) xs)) (let e : n + suc i ≡ n + 1 + i = omega arith in e)
    ∙ any-at q (n + 1) i xs
