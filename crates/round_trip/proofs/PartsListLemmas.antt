-- Properties of each element of a list.
use Rattle.std.proofs.Common.{◌≡◌, ℕ, zero, suc, Bool, true, List, [], ◌∷◌, Some, slice_get, flat_map, subst}
use Rattle.std.specs.List.{AllByRecursion, list_all}
use Rattle.std.proofs.lemmas.Bool.{and_parts}
use Rattle.std.proofs.lemmas.Option.{none-some, same_Some}
use Rattle.mm_meta.proofs.FeatureListLemmas.{all-append}

module _ {X : Type 0} where
  pub all-both : (P Q R : X → Type 0) (xs : List X) → ((x : X) → P x → Q x → R x) → AllByRecursion P xs → AllByRecursion Q xs → AllByRecursion R xs
  all-both P Q R [] h a b = tt
  all-both P Q R (x ∷ xs) h a b = (h x a.0 b.0, all-both P Q R xs h a.1 b.1)

  pub all-more : (P Q : X → Type 0) (xs : List X) → ((x : X) → P x → Q x) → AllByRecursion P xs → AllByRecursion Q xs
  all-more P Q [] h a = tt
  all-more P Q (x ∷ xs) h a = (h x a.0, all-more P Q xs h a.1)

  pub all-passing : (p : X → Bool) (xs : List X) (k : ℕ) (x : X) → list_all p xs ≡ true → slice_get xs k ≡ Some x → p x ≡ true
  all-passing p [] k x all at = absurd (none-some x at)
  all-passing p (y ∷ ys) zero x all at = subst (λ z. p z ≡ true) (same_Some y x at) (and_parts (p y) (list_all p ys) all).0
  all-passing p (y ∷ ys) (suc k) x all at = all-passing p ys k x (and_parts (p y) (list_all p ys) all).1 at

  pub all-flat_map : {Y : Type 0} (Q : X → Type 0) (P : Y → Type 0) (f : X → List Y) (xs : List X) → ((x : X) → Q x → AllByRecursion P (f x)) → AllByRecursion Q xs → AllByRecursion P (flat_map f xs)
  all-flat_map Q P f [] h a = tt
  all-flat_map Q P f (x ∷ xs) h a = all-append P (f x) (flat_map f xs) (h x a.0) (all-flat_map Q P f xs h a.1)
