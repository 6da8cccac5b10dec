-- Names that are added to a table of names.
use Rattle.std.proofs.Common.{◌≡◌, ◌∙◌, ◌+◌, ℕ, suc, Bool, true, false, cond, List, [], ◌∷◌, ◌++◌, length, map, Option, Some, None, ap, arith, refl, rules, sym, subst}
use Rattle.std.specs.Prelude.{is_some, option_map, position}
use Rattle.std.specs.List.{position_from}
use Rattle.std.specs.Str.{bytes_eq}
use Rattle.std.proofs.lemmas.Iterator.Adapters.{position_from-zero}
use Rattle.std.proofs.lemmas.Slice.Eq.{bytes_eq-Decides}

position_from-push : {X : Type 0} (p : X → Bool) (i : ℕ) (xs : List X) (y : X)
    → position_from p i (xs ++ y ∷ []) ≡ cond (is_some (position_from p i xs)) (position_from p i xs) (cond (p y) (Some (i + length xs)) None)
position_from-push p i [] y = let e : i + 0 ≡ i = omega arith in rw e refl
position_from-push p i (x ∷ xs) y =
    elim (p x) as (λ b. cond b (Some i) (position_from p (i + 1) (xs ++ y ∷ [])) ≡ cond (is_some (cond b (Some i) (position_from p (i + 1) xs))) (cond b (Some i) (position_from p (i + 1) xs)) (cond (p y) (Some (i + suc (length xs))) None)) [
      | true ↦ refl
      | false ↦ let e : i + 1 + length xs ≡ i + suc (length xs) = omega arith in rw (← e) (position_from-push p (i + 1) xs y)
    ]

kept : {X : Type 0} (o : Option X) → cond (is_some o) o None ≡ o
kept None = refl
kept (Some x) = refl

-- the first position in a list with one more item
pub position-push : {X : Type 0} (p : X → Bool) (xs : List X) (y : X)
    → position p (xs ++ y ∷ []) ≡ cond (is_some (position p xs)) (position p xs) (cond (p y) (Some (length xs)) None)
position-push p xs y =
    let zero_more : 0 + length xs ≡ length xs = omega arith in
    let at : position_from p 0 (xs ++ y ∷ []) ≡ cond (is_some (position_from p 0 xs)) (position_from p 0 xs) (cond (p y) (Some (length xs)) None) =
    rw zero_more at (position_from-push p 0 xs y) in
    position_from-zero p (xs ++ y ∷ []) ∙ (at ∙ sym (ap (λ o. cond (is_some o) o (cond (p y) (Some (length xs)) None)) (position_from-zero p xs)))

-- a name that is in the list already changes no first position
pub position-seen : (names : List (List ℕ)) (name q : List ℕ) → is_some (position (λ n. bytes_eq n name) names) ≡ true
    → position (λ n. bytes_eq n q) (names ++ name ∷ []) ≡ position (λ n. bytes_eq n q) names
position-seen names name q seen =
    position-push (λ n. bytes_eq n q) names name
    ∙ elim (bytes_eq name q) as (λ b. bytes_eq name q ≡ b → cond (is_some (position (λ n. bytes_eq n q) names)) (position (λ n. bytes_eq n q) names) (cond b (Some (length names)) None) ≡ position (λ n. bytes_eq n q) names) [
      | true ↦ λ same.
          let is : name ≡ q = search (rules, bytes_eq-Decides) in
          let found : is_some (position (λ n. bytes_eq n q) names) ≡ true = subst (λ w. is_some (position (λ n. bytes_eq n w) names) ≡ true) is seen in
          rw found refl
      | false ↦ λ other. kept (position (λ n. bytes_eq n q) names)
    ] refl

-- a name that is new is first where it is put, and changes no other first position
pub position-new : (names : List (List ℕ)) (name q : List ℕ) → is_some (position (λ n. bytes_eq n name) names) ≡ false
    → position (λ n. bytes_eq n q) (names ++ name ∷ []) ≡ cond (bytes_eq name q) (Some (length names)) (position (λ n. bytes_eq n q) names)
position-new names name q new =
    position-push (λ n. bytes_eq n q) names name
    ∙ elim (bytes_eq name q) as (λ b. bytes_eq name q ≡ b → cond (is_some (position (λ n. bytes_eq n q) names)) (position (λ n. bytes_eq n q) names) (cond b (Some (length names)) None) ≡ cond b (Some (length names)) (position (λ n. bytes_eq n q) names)) [
      | true ↦ λ same.
          let is : name ≡ q = search (rules, bytes_eq-Decides) in
          let missing : is_some (position (λ n. bytes_eq n q) names) ≡ false = subst (λ w. is_some (position (λ n. bytes_eq n w) names) ≡ false) is new in
          rw missing refl
      | false ↦ λ other. kept (position (λ n. bytes_eq n q) names)
    ] refl

pub is_some-map : {X Y : Type 0} (f : X → Y) (o : Option X) → is_some (option_map f o) ≡ is_some o
is_some-map f None = refl
is_some-map f (Some x) = refl

position_from-map : {X Y : Type 0} (p : Y → Bool) (f : X → Y) (i : ℕ) (xs : List X) → position_from p i (map f xs) ≡ position_from (λ x. p (f x)) i xs
position_from-map p f i [] = refl
position_from-map p f i (x ∷ xs) = ap (cond (p (f x)) (Some i)) (position_from-map p f (i + 1) xs)

-- the first position in a mapped list is that in the list
pub position-map : {X Y : Type 0} (p : Y → Bool) (f : X → Y) (xs : List X) → position p (map f xs) ≡ position (λ x. p (f x)) xs
position-map p f xs = position_from-zero p (map f xs) ∙ (position_from-map p f 0 xs ∙ sym (position_from-zero (λ x. p (f x)) xs))
