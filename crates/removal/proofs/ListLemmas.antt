-- Lists without repetitions, and members of lists that are made of other lists.
use Rattle.std.proofs.Common.{◌≡◌, ℕ, zero, suc, Bool, true, false, cond, ◌||◌, List, [], ◌∷◌, ◌++◌, filter, flat_map, map, slice_get, Some, refl, sym, ap, ◌∙◌, inl, inr}
use Rattle.std.specs.List.{AllByRecursion, IsDistinct, list_any}
use Rattle.std.proofs.lemmas.Bool.{false≢true, or_cases, or_left, or_right}
use Rattle.std.proofs.lemmas.List.Folds.{list_any-append}
use Rattle.std.proofs.lemmas.Option.{none-some, same_Some}
use Rattle.mm_meta.proofs.FeatureListLemmas.{all-append}

---------------------------------------------------------------- all

pub all-weaker : {X : Type 0} (P Q : X → Type 0) (xs : List X) → ((x : X) → P x → Q x) → AllByRecursion P xs → AllByRecursion Q xs
all-weaker P Q [] weaker all = tt
all-weaker P Q (x ∷ xs) weaker all = (weaker x all.0, all-weaker P Q xs weaker all.1)

pub all-map : {X Y : Type 0} (P : Y → Type 0) (f : X → Y) (xs : List X) → AllByRecursion (λ (x : X). P (f x)) xs → AllByRecursion P (map f xs)
all-map P f [] all = tt
all-map P f (x ∷ xs) all = (all.0, all-map P f xs all.1)

-- each element that a filter keeps passes the test
pub all-filter : {X : Type 0} (P : X → Type 0) (p : X → Bool) (xs : List X) → AllByRecursion P xs → AllByRecursion (λ x. P x × (p x ≡ true)) (filter p xs)
all-filter P p [] all = tt
all-filter P p (x ∷ xs) all = elim (p x) as (λ b. p x ≡ b → AllByRecursion (λ y. P y × (p y ≡ true)) (cond b (x ∷ filter p xs) (filter p xs))) [
  | true ↦ λ h. ((all.0, h), all-filter P p xs all.1)
  | false ↦ λ _. all-filter P p xs all.1
] refl

pub all-flat_map : {X Y : Type 0} (P : X → Type 0) (Q : Y → Type 0) (f : X → List Y) → ((x : X) → P x → AllByRecursion Q (f x)) → (xs : List X) → AllByRecursion P xs → AllByRecursion Q (flat_map f xs)
all-flat_map P Q f each [] all = tt
all-flat_map P Q f each (x ∷ xs) all = all-append Q (f x) (flat_map f xs) (each x all.0) (all-flat_map P Q f each xs all.1)

-- a property that the element at each position has
pub all-at : {X : Type 0} (P : X → Type 0) (xs : List X) → ((k : ℕ) (x : X) → slice_get xs k ≡ Some x → P x) → AllByRecursion P xs
all-at P [] at = tt
all-at P (x ∷ xs) at = (at 0 x refl, all-at P xs (λ k y h. at (suc k) y h))

-- a property of all members, if each is the same as itself
pub all-among : {X : Type 0} (P : X → Type 0) (same : X → X → Bool) → ((x : X) → same x x ≡ true) → (xs : List X) → ((x : X) → list_any (same x) xs ≡ true → P x) → AllByRecursion P xs
all-among P same self [] h = tt
all-among P same self (x ∷ xs) h = (h x (or_left _ _ (self x)), all-among P same self xs (λ y q. h y (or_right _ _ q)))

---------------------------------------------------------------- lists that repeat nothing

pub distinct-filter : {X : Type 0} (R : X → X → Bool) (p : X → Bool) (xs : List X) → IsDistinct R xs → IsDistinct R (filter p xs)
unfolding IsDistinct
distinct-filter R p [] d = tt
distinct-filter R p (x ∷ xs) d = elim (p x) as (λ b. IsDistinct R (cond b (x ∷ filter p xs) (filter p xs))) [
  | true ↦ (all-weaker _ _ (filter p xs) (λ y h. h.0) (all-filter (λ y. R x y ≡ false) p xs d.0), distinct-filter R p xs d.1)
  | false ↦ distinct-filter R p xs d.1
]

module _ {X Y : Type 0} (same : X → X → Bool) (R : Y → Y → Bool) (P : X → Type 0) (f : X → Y) (apart : (x y : X) → P x → P y → same x y ≡ false → R (f x) (f y) ≡ false) where
  images-apart : (x : X) (ys : List X) → P x → AllByRecursion P ys → AllByRecursion (λ y. same x y ≡ false) ys → AllByRecursion (λ y. R (f x) (f y) ≡ false) ys
  images-apart x [] p own other = tt
  images-apart x (y ∷ ys) p own other = (apart x y p own.0 other.0, images-apart x ys p own.1 other.1)

  pub distinct-map : (xs : List X) → AllByRecursion P xs → IsDistinct same xs → IsDistinct R (map f xs)
  unfolding IsDistinct
  distinct-map [] all d = tt
  distinct-map (x ∷ xs) all d = (all-map (λ z. R (f x) z ≡ false) f xs (images-apart x xs all.0 all.1 d.0), distinct-map xs all.1 d.1)

pub distinct-append : {X : Type 0} (R : X → X → Bool) (P Q : X → Type 0) → ((x y : X) → P x → Q y → R x y ≡ false)
    → (xs ys : List X) → AllByRecursion P xs → AllByRecursion Q ys → IsDistinct R xs → IsDistinct R ys → IsDistinct R (xs ++ ys)
unfolding IsDistinct
distinct-append R P Q apart [] ys a b d e = e
distinct-append R P Q apart (x ∷ xs) ys a b d e = (
  all-append (λ y. R x y ≡ false) xs ys d.0 (all-weaker Q (λ y. R x y ≡ false) ys (λ y q. apart x y a.0 q) b),
  distinct-append R P Q apart xs ys a.1 b d.1 e,
)

-- lists of different elements have no element in common, by a property of each
module _ {X Y : Type 0} (same : X → X → Bool) (R : Y → Y → Bool) (P : X → Type 0) (K : X → Y → Type 0) (f : X → List Y)
    (each : (x : X) → P x → IsDistinct R (f x)) (known : (x : X) → P x → AllByRecursion (K x) (f x))
    (apart : (x y : X) (u v : Y) → same x y ≡ false → K x u → K y v → R u v ≡ false) where
  abbrev IsOfOther : X → Y → Type 0
  IsOfOther x v = (y : X) × (same x y ≡ false) × K y v

  of-others : (x : X) (ys : List X) → AllByRecursion P ys → AllByRecursion (λ y. same x y ≡ false) ys → AllByRecursion (IsOfOther x) (flat_map f ys)
  of-others x [] all other = tt
  of-others x (y ∷ ys) all other = all-append (IsOfOther x) (f y) (flat_map f ys) (all-weaker (K y) (IsOfOther x) (f y) (λ v k. (y, other.0, k)) (known y all.0)) (of-others x ys all.1 other.1)

  pub distinct-flat_map : (xs : List X) → AllByRecursion P xs → IsDistinct same xs → IsDistinct R (flat_map f xs)
  unfolding IsDistinct
  distinct-flat_map [] all d = tt
  distinct-flat_map (x ∷ xs) all d =
      distinct-append R (K x) (IsOfOther x) (λ u v k other. apart x other.0 u v other.1 k other.2) (f x) (flat_map f xs) (known x all.0) (of-others x xs all.1 d.0) (each x all.0) (distinct-flat_map xs all.1 d.1)

---------------------------------------------------------------- what is among them

pub any-at : {X : Type 0} (p : X → Bool) (xs : List X) (k : ℕ) (x : X) → slice_get xs k ≡ Some x → p x ≡ true → list_any p xs ≡ true
any-at p [] k x at h = absurd (none-some x at)
any-at p (y ∷ ys) zero x at h = or_left _ _ (ap p (same_Some y x at) ∙ h)
any-at p (y ∷ ys) (suc k) x at h = or_right (p y) _ (any-at p ys k x at h)

-- the first element that passes, and its position
pub passes-at : {X : Type 0} (p : X → Bool) (xs : List X) → list_any p xs ≡ true → (k : ℕ) × (x : X) × (slice_get xs k ≡ Some x) × (p x ≡ true)
passes-at p [] h = absurd (false≢true h)
passes-at p (x ∷ xs) h = elim (or_cases (p x) (list_any p xs) h) [
  | inl here ↦ (zero, x, refl, here)
  | inr later ↦ let at = passes-at p xs later in (suc at.0, at.1, at.2, at.3)
]

pub any-map : {X Y : Type 0} (p : Y → Bool) (f : X → Y) (xs : List X) → list_any p (map f xs) ≡ list_any (λ x. p (f x)) xs
any-map p f [] = refl
any-map p f (x ∷ xs) = ap (λ b. p (f x) || b) (any-map p f xs)

-- an element that passes is among those that pass
pub any-filter : {X : Type 0} (is p : X → Bool) (x : X) → ((y : X) → is y ≡ true → x ≡ y) → p x ≡ true → (xs : List X) → list_any is xs ≡ true → list_any is (filter p xs) ≡ true
any-filter is p x sound passes [] h = absurd (false≢true h)
any-filter is p x sound passes (y ∷ ys) h =
    elim (p y) as (λ b. p y ≡ b → list_any is (cond b (y ∷ filter p ys) (filter p ys)) ≡ true) [
      | true ↦ λ q. elim (or_cases (is y) (list_any is ys) h) [
        | inl here ↦ or_left _ _ here
        | inr later ↦ or_right (is y) _ (any-filter is p x sound passes ys later)
      ]
      | false ↦ λ q. elim (or_cases (is y) (list_any is ys) h) [
        | inl here ↦ absurd (false≢true (sym q ∙ ap p (sym (sound y here)) ∙ passes))
        | inr later ↦ any-filter is p x sound passes ys later
      ]
    ] refl

-- the results of one element are among the results of all
pub any-flat_map : {X Y : Type 0} (is : X → Bool) (p : Y → Bool) (f : X → List Y) (x : X) → ((y : X) → is y ≡ true → x ≡ y) → list_any p (f x) ≡ true
    → (xs : List X) → list_any is xs ≡ true → list_any p (flat_map f xs) ≡ true
any-flat_map is p f x sound given [] h = absurd (false≢true h)
any-flat_map is p f x sound given (y ∷ ys) h =
    list_any-append p (f y) (flat_map f ys) ∙ elim (or_cases (is y) (list_any is ys) h) [
      | inl here ↦ or_left _ _ (ap (λ z. list_any p (f z)) (sym (sound y here)) ∙ given)
      | inr later ↦ or_right (list_any p (f y)) _ (any-flat_map is p f x sound given ys later)
    ]

pub any-left : {X : Type 0} (p : X → Bool) (xs ys : List X) → list_any p xs ≡ true → list_any p (xs ++ ys) ≡ true
any-left p xs ys h = list_any-append p xs ys ∙ or_left _ _ h

pub any-right : {X : Type 0} (p : X → Bool) (xs ys : List X) → list_any p ys ≡ true → list_any p (xs ++ ys) ≡ true
any-right p xs ys h = list_any-append p xs ys ∙ or_right (list_any p xs) _ h

-- a property of all elements holds for one that passes
pub any-all : {X C : Type 0} (P : X → Type 0) (p : X → Bool) → ((x : X) → P x → p x ≡ true → C) → (xs : List X) → AllByRecursion P xs → list_any p xs ≡ true → C
any-all P p gives [] all h = absurd (false≢true h)
any-all P p gives (x ∷ xs) all h = elim (or_cases (p x) (list_any p xs) h) [
  | inl here ↦ gives x all.0 here
  | inr later ↦ any-all P p gives xs all.1 later
]
