-- The position of a value in a list of two parts.
use Rattle.std.proofs.Common.{◌≡◌, ℕ, ◌+◌, ◌<◌, ◌≤◌, Bool, List, [], ◌∷◌, ◌++◌, length, get_or, drop, Option, Some, None, refl, sym, ◌∙◌, ap, arith, length-append}
use Rattle.std.specs.Option.{option_map}
use Rattle.std.specs.List.{position}
use Rattle.std.proofs.lemmas.List.{drop_more, drop_all}
use Rattle.std.proofs.lemmas.List.Sums.{prefix_len-le-length}
use Rattle.std.proofs.lemmas.List.Folds.{prefix_len-append}
use Rattle.std.proofs.lemmas.List.Quantifiers.{position-Some}
use Rattle.std.proofs.lemmas.Grind.{common_steps}
use Rattle.std.proofs.lemmas.Bool.Decides.{nat_tests}
use Rattle.slot_lists.specs.Pieces.{joined_values}

pub position-hit : {X : Type 0} (p : X → Bool) (xs ys : List X) (i : ℕ) → position p xs ≡ Some i → position p (xs ++ ys) ≡ Some i
position-hit p xs ys i e = grind (arith, common_steps, nat_tests, prefix_len-append, prefix_len-le-length, length-append)

pub position-miss : {X : Type 0} (p : X → Bool) (xs ys : List X) → position p xs ≡ None → position p (xs ++ ys) ≡ option_map (λ i. length xs + i) (position p ys)
position-miss p xs ys e = grind (arith, common_steps, nat_tests, prefix_len-append, prefix_len-le-length, length-append)

-- a search has passed the first k pieces, which have `before` values
pub record HasPassed {T : Type 0} (p : T → Bool) (xs : List T) (cs : List (List T)) (k before : ℕ) : Type 0 where
  pub count : before + length (joined_values (drop k cs)) ≡ length xs
  pub found : position p xs ≡ option_map (λ i. before + i) (position p (joined_values (drop k cs)))

no_offset : (o : Option ℕ) → o ≡ option_map (λ i. 0 + i) o
no_offset None = refl
no_offset (Some i) = ap Some (omega arith)

add_offset : (a b : ℕ) (o : Option ℕ) → option_map (λ i. a + i) (option_map (λ i. b + i) o) ≡ option_map (λ i. a + b + i) o
add_offset a b None = refl
add_offset a b (Some i) = ap Some (omega arith)

pub passed-none : {T : Type 0} (p : T → Bool) (xs : List T) (cs : List (List T)) → joined_values cs ≡ xs → HasPassed p xs cs 0 0
passed-none p xs cs e = record {
  count = let long = ap length e in omega arith;
  found = ap (position p) (sym e) ∙ no_offset (position p (joined_values cs));
}

split : {T : Type 0} (cs : List (List T)) (k : ℕ) (x : List T) → k < length cs → x ≡ get_or cs k x → joined_values (drop k cs) ≡ x ++ joined_values (drop (k + 1) cs)
split cs k x lt is = ap joined_values (drop_more cs k x lt) ∙ ap (λ q. q ++ joined_values (drop (k + 1) cs)) (sym is)

pub passed-more : {T : Type 0} (p : T → Bool) (xs : List T) (cs : List (List T)) (k before : ℕ) (x : List T) → HasPassed p xs cs k before → k < length cs → x ≡ get_or cs k x → position p x ≡ None → HasPassed p xs cs (k + 1) (before + length x)
passed-more p xs cs k before x h lt is miss =
    let e = split cs k x lt is in
    let long = ap length e ∙ length-append x (joined_values (drop (k + 1) cs)) in
    record {
      count = omega (arith, h.count, long);
      found = h.found ∙ ap (λ q. option_map (λ i. before + i) (position p q)) e ∙ ap (option_map (λ i. before + i)) (position-miss p x (joined_values (drop (k + 1) cs)) miss) ∙ add_offset before (length x) (position p (joined_values (drop (k + 1) cs)));
    }

pub passed-found : {T : Type 0} (p : T → Bool) (xs : List T) (cs : List (List T)) (k before i : ℕ) (x : List T) → HasPassed p xs cs k before → k < length cs → x ≡ get_or cs k x → position p x ≡ Some i → position p xs ≡ Some (before + i)
passed-found p xs cs k before i x h lt is hit =
    let e = split cs k x lt is in
    h.found ∙ ap (λ q. option_map (λ j. before + j) (position p q)) e ∙ ap (option_map (λ j. before + j)) (position-hit p x (joined_values (drop (k + 1) cs)) i hit)

pub passed-within : {T : Type 0} (p : T → Bool) (xs : List T) (cs : List (List T)) (k before : ℕ) (x : List T) → HasPassed p xs cs k before → k < length cs → x ≡ get_or cs k x → before + length x ≤ length xs
passed-within p xs cs k before x h lt is =
    let e = split cs k x lt is in
    let long = ap length e ∙ length-append x (joined_values (drop (k + 1) cs)) in
    omega (arith, h.count, long)

pub position-within : {T : Type 0} (p : T → Bool) (xs : List T) (i : ℕ) → position p xs ≡ Some i → i < length xs
position-within p [] i e = cc
position-within p (x ∷ xs) i e = let at = position-Some p (x ∷ xs) i x e in at.0

pub passed-all : {T : Type 0} (p : T → Bool) (xs : List T) (cs : List (List T)) (k before : ℕ) → HasPassed p xs cs k before → length cs ≤ k → position p xs ≡ None
passed-all p xs cs k before h le = h.found ∙ ap (λ q. option_map (λ i. before + i) (position p (joined_values q))) (drop_all k cs le)
