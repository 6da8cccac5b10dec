-- Properties of each item of a list, and their consequences for the list.
use Rattle.std.proofs.Common.{◌≡◌, ◌∙◌, ℕ, zero, suc, ◌+◌, Bool, true, false, cond, List, [], ◌∷◌, Option, Some, ap, arith, map, refl, subst}
use Rattle.std.specs.Prelude.{◌&&◌, ◌||◌, Contains, filter, filter_map, slice_get}
use Rattle.std.specs.List.{AllByRecursion, cons_option, enumerate_from, list_all, list_any}
use Rattle.std.proofs.lemmas.Bool.{and_parts}
use Rattle.std.proofs.lemmas.List.Folds.{list_any_at}
use Rattle.std.proofs.lemmas.Option.{none-some, same_Some}
use Rattle.round_trip.proofs.ValuesListLemmas.{behind, in-front, passes-kept}

---------------------------------------------------------------- being in a list

pub each-of : {X : Type 0} (P : X → Type 0) (xs : List X) → ((x : X) → Contains xs x → P x) → AllByRecursion P xs
each-of P [] h = tt
each-of P (x ∷ xs) h = (h x (in-front x xs), each-of P xs (λ y there. h y (behind x xs y there)))

pub each-at : {X : Type 0} (P : X → Type 0) (xs : List X) → ((i : ℕ) (x : X) → slice_get xs i ≡ Some x → P x) → AllByRecursion P xs
each-at P [] h = tt
each-at P (x ∷ xs) h = (h 0 x refl, each-at P xs (λ i y at. h (suc i) y at))

pub of-each : {X : Type 0} (P : X → Type 0) (xs : List X) (x : X) → AllByRecursion P xs → Contains xs x → P x
of-each P [] x all (k, low, at) = absurd (omega (arith, low))
of-each P (y ∷ ys) x all (zero, low, at) = subst P at all.0
of-each P (y ∷ ys) x all (suc k, low, at) = of-each P ys x all.1 (k, omega (arith, low), at)

-- an item that a filter keeps was in the list and passes the test
pub filtered-in : {X : Type 0} (p : X → Bool) (xs : List X) (x : X) → Contains (filter p xs) x → Contains xs x × (p x ≡ true)
filtered-in {X} p xs x there = (of-each (λ y. Contains xs y) (filter p xs) x (all xs (λ y at. at)) there, passes-kept p xs x there)
  where
    all : (ys : List X) → ((y : X) → Contains ys y → Contains xs y) → AllByRecursion (λ y. Contains xs y) (filter p ys)
    all [] more = tt
    all (y ∷ ys) more =
        elim (p y) as (λ b. AllByRecursion (λ z. Contains xs z) (cond b (y ∷ filter p ys) (filter p ys))) [
          | true ↦ (more y (in-front y ys), all ys (λ z at. more z (behind y ys z at)))
          | false ↦ all ys (λ z at. more z (behind y ys z at))
        ]

---------------------------------------------------------------- tests

pub any-none : {X : Type 0} (p : X → Bool) (xs : List X) → AllByRecursion (λ x. p x ≡ false) xs → list_any p xs ≡ false
any-none p [] all = refl
any-none p (x ∷ xs) all = ap (λ b. b || list_any p xs) all.0 ∙ any-none p xs all.1

pub any-in : {X : Type 0} (p : X → Bool) (xs : List X) (x : X) → Contains xs x → p x ≡ true → list_any p xs ≡ true
any-in p xs x there passes = list_any_at p xs there.0 x there.1 (ap p there.2 ∙ passes)

pub all-pass : {X : Type 0} (p : X → Bool) (xs : List X) → AllByRecursion (λ x. p x ≡ true) xs → list_all p xs ≡ true
all-pass p [] all = refl
all-pass p (x ∷ xs) all = ap (λ b. b && list_all p xs) all.0 ∙ all-pass p xs all.1

pub all-passed : {X : Type 0} (p : X → Bool) (xs : List X) → list_all p xs ≡ true → AllByRecursion (λ x. p x ≡ true) xs
all-passed p [] h = tt
all-passed p (x ∷ xs) h = let both = and_parts (p x) (list_all p xs) h in (both.0, all-passed p xs both.1)

---------------------------------------------------------------- equal lists

pub map-each : {X Y : Type 0} (f g : X → Y) (xs : List X) → AllByRecursion (λ x. f x ≡ g x) xs → map f xs ≡ map g xs
map-each f g [] all = refl
map-each f g (x ∷ xs) all = (λ i. all.0 i ∷ map-each f g xs all.1 i)

pub map-twice : {X Y Z : Type 0} (f : X → Y) (g : Y → Z) (xs : List X) → map g (map f xs) ≡ map (λ x. g (f x)) xs
map-twice f g [] = refl
map-twice f g (x ∷ xs) = ap (λ ys. g (f x) ∷ ys) (map-twice f g xs)

pub each-mapped : {X Y : Type 0} (f : X → Y) (P : Y → Type 0) (xs : List X) → AllByRecursion (λ x. P (f x)) xs → AllByRecursion P (map f xs)
each-mapped f P [] all = tt
each-mapped f P (x ∷ xs) all = (all.0, each-mapped f P xs all.1)

pub filter_map-mapped : {X Y Z : Type 0} (f : X → Y) (g : Y → Option Z) (xs : List X) → filter_map g (map f xs) ≡ filter_map (λ x. g (f x)) xs
filter_map-mapped f g [] = refl
filter_map-mapped f g (x ∷ xs) = ap (cons_option (g (f x))) (filter_map-mapped f g xs)

pub mapped-in : {X Y : Type 0} (f : X → Y) (xs : List X) (x : X) → Contains xs x → Contains (map f xs) (f x)
mapped-in f [] x (k, low, at) = absurd (omega (arith, low))
mapped-in f (y ∷ ys) x (zero, low, at) = subst (λ z. Contains (map f (y ∷ ys)) (f z)) at (in-front (f y) (map f ys))
mapped-in f (y ∷ ys) x (suc k, low, at) = behind (f y) (map f ys) (f x) (mapped-in f ys x (k, omega (arith, low), at))

-- the item at an index of a list that was made item by item
pub mapped-at : {X Y : Type 0} (f : X → Y) (xs : List X) (i : ℕ) (y : Y) → slice_get (map f xs) i ≡ Some y → (x : X) × (slice_get xs i ≡ Some x) × (f x ≡ y)
mapped-at f [] i y at = absurd (none-some y at)
mapped-at f (x ∷ xs) zero y at = (x, refl, same_Some (f x) y at)
mapped-at f (x ∷ xs) (suc i) y at = mapped-at f xs i y at

pub all-kept : {X : Type 0} (p : X → Bool) (xs : List X) → AllByRecursion (λ x. p x ≡ true) xs → filter p xs ≡ xs
all-kept p [] all = refl
all-kept p (x ∷ xs) all = ap (λ b. cond b (x ∷ filter p xs) (filter p xs)) all.0 ∙ ap (λ ys. x ∷ ys) (all-kept p xs all.1)

pub filter_map-each : {X Y : Type 0} (f : X → Option Y) (g : X → Y) (xs : List X) → AllByRecursion (λ x. f x ≡ Some (g x)) xs → filter_map f xs ≡ map g xs
filter_map-each f g [] all = refl
filter_map-each f g (x ∷ xs) all = ap (λ o. cons_option o (filter_map f xs)) all.0 ∙ ap (λ ys. g x ∷ ys) (filter_map-each f g xs all.1)

-- the results of reading each item with its index
pub read-each : {X Y Z : Type 0} (f : ℕ × Y → Option Z) (d : X → Y) (g : X → Z) (n : ℕ) (xs : List X) → ((i : ℕ) (x : X) → slice_get xs i ≡ Some x → f (n + i, d x) ≡ Some (g x))
    → filter_map f (enumerate_from n (map d xs)) ≡ map g xs
read-each f d g n [] h = refl
read-each f d g n (x ∷ xs) h =
    ap (λ o. cons_option o (filter_map f (enumerate_from (n + 1) (map d xs)))) (ap (λ (k : ℕ). f (k, d x)) (let e : n ≡ n + 0 = omega arith in e) ∙ h 0 x refl)
    ∙ ap (λ zs. g x ∷ zs) (read-each f d g (n + 1) xs (λ i y at. ap (λ (k : ℕ). f (k, d y)) (let e : n + 1 + i ≡ n + suc i = omega arith in e) ∙ h (suc i) y at))
