-- Properties of each element of lists that are joined, and of each two elements.
use Rattle.std.proofs.Common.{◌≡◌, ◌+◌, ◌++◌, ℕ, zero, suc, Bool, true, false, cond, List, [], ◌∷◌, Option, Some, None, map, refl, ap, subst, arith}
use Rattle.std.specs.Prelude.{filter, filter_map, flat_map, slice_get}
use Rattle.std.specs.List.{AllByRecursion, cons_option, enumerate_from}
use Rattle.std.proofs.lemmas.Option.{none-some, same_Some}

module _ {X : Type 0} where
  pub all-append : (P : X → Type 0) (xs ys : List X) → AllByRecursion P xs → AllByRecursion P ys → AllByRecursion P (xs ++ ys)
  all-append P [] ys a b = b
  all-append P (x ∷ xs) ys a b = (a.0, all-append P xs ys a.1 b)

  pub all-every : (P : X → Type 0) (xs : List X) → ((x : X) → P x) → AllByRecursion P xs
  all-every P [] h = tt
  all-every P (x ∷ xs) h = (h x, all-every P xs h)

  pub all-more : (P Q : X → Type 0) (xs : List X) → ((x : X) → P x → Q x) → AllByRecursion P xs → AllByRecursion Q xs
  all-more P Q [] h a = tt
  all-more P Q (x ∷ xs) h a = (h x a.0, all-more P Q xs h a.1)

  pub all-and : (P Q R : X → Type 0) (xs : List X) → ((x : X) → P x → Q x → R x) → AllByRecursion P xs → AllByRecursion Q xs → AllByRecursion R xs
  all-and P Q R [] h a b = tt
  all-and P Q R (x ∷ xs) h a b = (h x a.0 b.0, all-and P Q R xs h a.1 b.1)

  pub all-both : (P Q : X → Type 0) (xs : List X) → AllByRecursion P xs → AllByRecursion Q xs → AllByRecursion (λ x. P x × Q x) xs
  all-both P Q xs a b = all-and P Q (λ x. P x × Q x) xs (λ x p q. (p, q)) a b

  pub all-at : (P : X → Type 0) (xs : List X) (k : ℕ) (x : X) → AllByRecursion P xs → slice_get xs k ≡ Some x → P x
  all-at P [] k x a h = absurd (none-some x h)
  all-at P (y ∷ ys) zero x a h = subst P (same_Some y x h) a.0
  all-at P (y ∷ ys) (suc k) x a h = all-at P ys k x a.1 h

  pub all-from_at : (P : X → Type 0) (xs : List X) → ((k : ℕ) (x : X) → slice_get xs k ≡ Some x → P x) → AllByRecursion P xs
  all-from_at P [] h = tt
  all-from_at P (x ∷ xs) h = (h zero x refl, all-from_at P xs (λ k y at. h (suc k) y at))

  pub all-filter : (P : X → Type 0) (p : X → Bool) (xs : List X) → AllByRecursion P xs → AllByRecursion P (filter p xs)
  all-filter P p [] a = tt
  all-filter P p (x ∷ xs) a = elim (p x) as (λ b. AllByRecursion P (cond b (x ∷ filter p xs) (filter p xs))) [ true ↦ (a.0, all-filter P p xs a.1) | false ↦ all-filter P p xs a.1 ]

  -- a relation of each element of one list and each of another
  abbrev pub AllPairs : (X → X → Type 0) → List X → List X → Type 0
  AllPairs R xs ys = AllByRecursion (λ x. AllByRecursion (R x) ys) xs

  pub pairs-nil : (R : X → X → Type 0) (xs : List X) → AllPairs R xs []
  pairs-nil R [] = tt
  pairs-nil R (x ∷ xs) = (tt, pairs-nil R xs)

  pub pairs-append : (R : X → X → Type 0) (xs ys zs : List X) → AllPairs R xs ys → AllPairs R xs zs → AllPairs R xs (ys ++ zs)
  pairs-append R [] ys zs a b = tt
  pairs-append R (x ∷ xs) ys zs a b = (all-append (R x) ys zs a.0 b.0, pairs-append R xs ys zs a.1 b.1)

  pub pairs-of : (P Q : X → Type 0) (R : X → X → Type 0) (xs ys : List X) → ((x y : X) → P x → Q y → R x y) → AllByRecursion P xs → AllByRecursion Q ys → AllPairs R xs ys
  pairs-of P Q R [] ys h a b = tt
  pairs-of P Q R (x ∷ xs) ys h a b = (all-more Q (R x) ys (λ y q. h x y a.0 q) b, pairs-of P Q R xs ys h a.1 b)

  -- a relation of each element and each later one
  abbrev pub Apart : (X → X → Type 0) → List X → Type 0
  Apart R [] = Unit {0}
  Apart R (x ∷ xs) = AllByRecursion (R x) xs × Apart R xs

  pub apart-more : (R S : X → X → Type 0) (xs : List X) → ((x y : X) → R x y → S x y) → Apart R xs → Apart S xs
  apart-more R S [] h a = tt
  apart-more R S (x ∷ xs) h a = (all-more (R x) (S x) xs (h x) a.0, apart-more R S xs h a.1)

  pub apart-append : (R : X → X → Type 0) (xs ys : List X) → Apart R xs → Apart R ys → AllPairs R xs ys → Apart R (xs ++ ys)
  apart-append R [] ys a b c = b
  apart-append R (x ∷ xs) ys a b c = (all-append (R x) xs ys a.0 c.0, apart-append R xs ys a.1 b c.1)

  pub apart-filter : (R : X → X → Type 0) (p : X → Bool) (xs : List X) → Apart R xs → Apart R (filter p xs)
  apart-filter R p [] a = tt
  apart-filter R p (x ∷ xs) a = elim (p x) as (λ b. Apart R (cond b (x ∷ filter p xs) (filter p xs))) [ true ↦ (all-filter (R x) p xs a.0, apart-filter R p xs a.1) | false ↦ apart-filter R p xs a.1 ]

  pub apart-both : (R : X → X → Type 0) (P : X → Type 0) (xs : List X) → Apart R xs → AllByRecursion P xs → Apart (λ x y. R x y × (P x × P y)) xs
  apart-both R P [] a b = tt
  apart-both R P (x ∷ xs) a b = (join xs a.0 b.1, apart-both R P xs a.1 b.1)
    where
      join : (ys : List X) → AllByRecursion (R x) ys → AllByRecursion P ys → AllByRecursion (λ y. R x y × (P x × P y)) ys
      join [] r p = tt
      join (y ∷ ys) r p = ((r.0, (b.0, p.0)), join ys r.1 p.1)

module _ {X Y : Type 0} where
  pub all-flat_map : (Q : X → Type 0) (P : Y → Type 0) (f : X → List Y) (xs : List X) → ((x : X) → Q x → AllByRecursion P (f x)) → AllByRecursion Q xs → AllByRecursion P (flat_map f xs)
  all-flat_map Q P f [] h a = tt
  all-flat_map Q P f (x ∷ xs) h a = all-append P (f x) (flat_map f xs) (h x a.0) (all-flat_map Q P f xs h a.1)

  pub all-flat_map_every : (P : Y → Type 0) (f : X → List Y) (xs : List X) → ((x : X) → AllByRecursion P (f x)) → AllByRecursion P (flat_map f xs)
  all-flat_map_every P f [] h = tt
  all-flat_map_every P f (x ∷ xs) h = all-append P (f x) (flat_map f xs) (h x) (all-flat_map_every P f xs h)

  pub all-map : (P : Y → Type 0) (f : X → Y) (xs : List X) → AllByRecursion (λ x. P (f x)) xs → AllByRecursion P (map f xs)
  all-map P f [] a = tt
  all-map P f (x ∷ xs) a = (a.0, all-map P f xs a.1)

  pub apart-map : (R : Y → Y → Type 0) (f : X → Y) (xs : List X) → Apart (λ x y. R (f x) (f y)) xs → Apart R (map f xs)
  apart-map R f [] a = tt
  apart-map R f (x ∷ xs) a = (all-map (R (f x)) f xs a.0, apart-map R f xs a.1)

  pub all-filter_map : (Q : X → Type 0) (P : Y → Type 0) (h : X → Option Y) (xs : List X) → ((x : X) (y : Y) → Q x → h x ≡ Some y → P y) → AllByRecursion Q xs → AllByRecursion P (filter_map h xs)
  all-filter_map Q P h [] f a = tt
  all-filter_map Q P h (x ∷ xs) f a =
      let rest = all-filter_map Q P h xs f a.1 in
      elim (h x) as (λ o. h x ≡ o → AllByRecursion P (cons_option o (filter_map h xs))) [ None ↦ λ _. rest | Some y ↦ λ q. (f x y a.0 q, rest) ] refl

  pub apart-filter_map : (R : X → X → Type 0) (S : Y → Y → Type 0) (h : X → Option Y) (xs : List X) → ((x z : X) (y w : Y) → R x z → h x ≡ Some y → h z ≡ Some w → S y w) → Apart R xs → Apart S (filter_map h xs)
  apart-filter_map R S h [] f a = tt
  apart-filter_map R S h (x ∷ xs) f a =
      let rest = apart-filter_map R S h xs f a.1 in
      elim (h x) as (λ o. h x ≡ o → Apart S (cons_option o (filter_map h xs))) [ None ↦ λ _. rest | Some y ↦ λ q. (all-filter_map (R x) (S y) h xs (λ z w r s. f x z y w r q s) a.0, rest) ] refl

  pairs-flat_map : (S : Y → Y → Type 0) (f : X → List Y) (ys : List Y) (xs : List X) → AllByRecursion (λ x. AllPairs S ys (f x)) xs → AllPairs S ys (flat_map f xs)
  pairs-flat_map S f ys [] a = pairs-nil S ys
  pairs-flat_map S f ys (x ∷ xs) a = pairs-append S ys (f x) (flat_map f xs) a.0 (pairs-flat_map S f ys xs a.1)

  pub apart-flat_map : (R : X → X → Type 0) (S : Y → Y → Type 0) (f : X → List Y) (xs : List X) → ((x : X) → Apart S (f x)) → ((x z : X) → R x z → AllPairs S (f x) (f z)) → Apart R xs → Apart S (flat_map f xs)
  apart-flat_map R S f [] each across a = tt
  apart-flat_map R S f (x ∷ xs) each across a =
      apart-append S (f x) (flat_map f xs) (each x) (apart-flat_map R S f xs each across a.1)
      (pairs-flat_map S f (f x) xs (all-more (R x) (λ z. AllPairs S (f x) (f z)) xs (λ z r. across x z r) a.0))

-- the element at an index of a list has that number
pub numbered-at : {X : Type 0} (xs : List X) (i k : ℕ) (y : ℕ × X) → slice_get (enumerate_from i xs) k ≡ Some y → (y.0 ≡ i + k) × (slice_get xs k ≡ Some y.1)
numbered-at [] i k y h = absurd (none-some y h)
numbered-at {X = X} (x ∷ xs) i zero y h =
    let e = same_Some (i, x) y h in
    let n = ap (λ (z : ℕ × X). z.0) e in
    (omega (arith, n), ap (λ (z : ℕ × X). Some z.1) e)
numbered-at (x ∷ xs) i (suc k) y h = let r = numbered-at xs (i + 1) k y h in let n = r.0 in (omega (arith, n), r.1)

-- each element is at its number
pub numbered-all : {X : Type 0} (xs : List X) → AllByRecursion (λ (x : ℕ × X). slice_get xs x.0 ≡ Some x.1) (enumerate_from 0 xs)
numbered-all {X = X} xs = all-from_at (λ (x : ℕ × X). slice_get xs x.0 ≡ Some x.1) (enumerate_from 0 xs) (λ j x at. (
    let r = numbered-at xs 0 j x at in
    let number = r.0 in
    let same : j ≡ x.0 = omega (arith, number) in
    subst (λ (i : ℕ). slice_get xs i ≡ Some x.1) same r.1))
