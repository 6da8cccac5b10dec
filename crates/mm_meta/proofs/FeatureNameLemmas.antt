-- The next index at which a name is, for each index of a list of names, found from the end backwards.
use Rattle.std.proofs.Common.{◌≡◌, ◌≢◌, ◌∙◌, ◌+◌, ◌<◌, ◌≤◌, ℕ, zero, suc, Bool, true, false, cond, List, [], ◌∷◌, Some, None, ⊎_elim, ap, arith, get_or, get_or-set_other, get_or-set_same, length, length-set, map, refl, set, subst, sym}
use Rattle.std.specs.Prelude.{position}
use Rattle.std.specs.List.{position_from}
use Rattle.std.specs.Str.{bytes_eq}
use Rattle.std.proofs.lemmas.Bool.{cases_eq}
use Rattle.std.proofs.lemmas.Iterator.Adapters.{position_from-zero}
use Rattle.std.proofs.lemmas.List.Quantifiers.{position-Some}
use Rattle.std.proofs.lemmas.Slice.Eq.{bytes_eq-Decides}
use Rattle.mm_types.specs.declared.feature.Feature.{Feature}
use Rattle.mm_meta.specs.FeatureNames.{IsNext}

pub name_is : (a b : List ℕ) → bytes_eq a b ≡ true → a ≡ b
name_is a b h = (bytes_eq-Decides a b).0 h

pub is_name : (a b : List ℕ) → a ≡ b → bytes_eq a b ≡ true
is_name a b e = (bytes_eq-Decides a b).1 e

missing_from : {X : Type 0} (p : X → Bool) (k : ℕ) (xs : List X) (d : X) → position_from p k xs ≡ None → (h : ℕ) → h < length xs → p (get_or xs h d) ≡ false
missing_from p k [] d is h low = absurd (omega arith)
missing_from p k (x ∷ xs) d is zero low =
    elim (p x) as (λ b. cond b (Some k) (position_from p (k + 1) xs) ≡ None → b ≡ false) [
      | true ↦ λ none. cc
      | false ↦ λ none. refl
    ] is
missing_from p k (x ∷ xs) d is (suc h) low =
    missing_from p (k + 1) xs d
    (elim (p x) as (λ b. cond b (Some k) (position_from p (k + 1) xs) ≡ None → position_from p (k + 1) xs ≡ None) [
      | true ↦ λ none. cc
      | false ↦ λ none. none
    ] is) h (omega arith)

pub missing : (names : List (List ℕ)) (name : List ℕ) → position (λ n. bytes_eq n name) names ≡ None → (h : ℕ) → h < length names → bytes_eq (get_or names h []) name ≡ false
missing names name is = missing_from (λ n. bytes_eq n name) 0 names [] (sym (position_from-zero (λ n. bytes_eq n name) names) ∙ is)

-- a name that is in a list is found there
pub stands : (names : List (List ℕ)) (f : ℕ) → f < length names → position (λ n. bytes_eq n (get_or names f [])) names ≡ None → ⊥
stands names f low is =
    let not_here : bytes_eq (get_or names f []) (get_or names f []) ≡ false =
    missing_from (λ n. bytes_eq n (get_or names f [])) 0 names [] (sym (position_from-zero (λ n. bytes_eq n (get_or names f [])) names) ∙ is) f low in
    let here : bytes_eq (get_or names f []) (get_or names f []) ≡ true = is_name (get_or names f []) (get_or names f []) refl in
    cc

-- the name at an index is nowhere before it
abbrev pub IsFirstAt : List (List ℕ) → ℕ → Type 0
IsFirstAt names p = position (λ n. bytes_eq n (get_or names p [])) names ≡ Some p

-- from an index on, the next index of each name is known, and for each name the first of these indexes
pub record AreMet (names : List (List ℕ)) (f : ℕ) (next met : List ℕ) : Type 0 where
  pub long_next : length next ≡ length names
  pub long_met : length met ≡ length names
  pub low : f ≤ length names
  pub firsts : (p : ℕ) → p < length names → IsFirstAt names p → IsNext names (get_or names p []) f (get_or met p 0)
  pub nexts : (h : ℕ) → f ≤ h → h < length names → IsNext names (get_or names h []) (suc h) (get_or next h 0)

pub at_end : (names : List (List ℕ)) (name : List ℕ) (g : ℕ) → g ≡ length names → IsNext names name (length names) g
at_end names name g is = record {
  behind = omega arith;
  within = omega arith;
  none_between = λ h past low here. absurd (omega arith);
  here = λ low. absurd (omega arith);
}

at_once : (names : List (List ℕ)) (name : List ℕ) (f : ℕ) → f < length names → get_or names f [] ≡ name → IsNext names name f f
at_once names name f low is = record {
  behind = omega arith;
  within = omega arith;
  none_between = λ h past below here. absurd (omega arith);
  here = λ within. is;
}

-- if another name is at the index before, the next index from there is the next index from this one
one_before : (names : List (List ℕ)) (name : List ℕ) (f g : ℕ) → IsNext names name (suc f) g → (get_or names f [] ≡ name → ⊥) → IsNext names name f g
one_before names name f g n other = record {
  behind = let past = n.behind in omega arith;
  within = n.within;
  none_between = λ h past below here. ⊎_elim
      (λ (e : h ≡ f). other (subst (λ (k : ℕ). get_or names k [] ≡ name) e here))
      (λ (apart : h ≢ f). n.none_between h (omega arith) below here)
      (cases_eq h f);
  here = n.here;
}

same_place : (p r : ℕ) → Some p ≡ Some r → p ≡ r
same_place p r e = cc

firsts_more : (names : List (List ℕ)) (f p : ℕ) (met : List ℕ) → p < length met → f < length names → get_or names p [] ≡ get_or names f []
    → position (λ n. bytes_eq n (get_or names f [])) names ≡ Some p
    → ((r : ℕ) → r < length names → IsFirstAt names r → IsNext names (get_or names r []) (suc f) (get_or met r 0))
    → (r : ℕ) → r < length names → IsFirstAt names r → IsNext names (get_or names r []) f (get_or (set met p f) r 0)
firsts_more names f p met within low same is known r r_low first = ⊎_elim
    (λ (e : r ≡ p).
    let put : get_or (set met p f) r 0 ≡ f = ap (λ (k : ℕ). get_or (set met p f) k 0) e ∙ get_or-set_same met p f 0 within in
    subst (λ (g : ℕ). IsNext names (get_or names r []) f g) (sym put) (at_once names (get_or names r []) f low (sym same ∙ ap (λ (k : ℕ). get_or names k []) (sym e))))
    (λ (n : r ≢ p).
    let other : get_or names f [] ≡ get_or names r [] → ⊥ =
    λ e. n (same_place r p (sym (subst (λ (w : List ℕ). position (λ n. bytes_eq n w) names ≡ Some r) (sym e) first) ∙ is)) in
    subst (λ (g : ℕ). IsNext names (get_or names r []) f g) (sym (get_or-set_other met p r f 0 n)) (one_before names (get_or names r []) f (get_or met r 0) (known r r_low first) other))
    (cases_eq r p)

nexts_more : (names : List (List ℕ)) (f g : ℕ) (next : List ℕ) → f < length next → IsNext names (get_or names f []) (suc f) g
    → ((h : ℕ) → suc f ≤ h → h < length names → IsNext names (get_or names h []) (suc h) (get_or next h 0))
    → (h : ℕ) → f ≤ h → h < length names → IsNext names (get_or names h []) (suc h) (get_or (set next f g) h 0)
nexts_more names f g next within ahead known h past low = ⊎_elim
    (λ (e : h ≡ f).
    let put : get_or (set next f g) f 0 ≡ g = get_or-set_same next f g 0 within in
    subst (λ (k : ℕ). IsNext names (get_or names k []) (suc k) (get_or (set next f g) k 0)) (sym e) (subst (λ (k : ℕ). IsNext names (get_or names f []) (suc f) k) (sym put) ahead))
    (λ (n : h ≢ f). subst (λ (k : ℕ). IsNext names (get_or names h []) (suc h) k) (sym (get_or-set_other next f h g 0 n)) (known h (omega arith) low))
    (cases_eq h f)

-- the index before is put in front of the indexes of its name
pub met_more : (names : List (List ℕ)) (f p : ℕ) (next met : List ℕ) → AreMet names (suc f) next met → position (λ n. bytes_eq n (get_or names f [])) names ≡ Some p
    → AreMet names f (set next f (get_or met p 0)) (set met p f)
met_more names f p next met m is =
    let low : f < length names = let below = m.low in omega arith in
    let found = position-Some (λ n. bytes_eq n (get_or names f [])) names p [] is in
    let same : get_or names p [] ≡ get_or names f [] = name_is (get_or names p []) (get_or names f []) found.1 in
    let first : IsFirstAt names p = subst (λ (w : List ℕ). position (λ n. bytes_eq n w) names ≡ Some p) (sym same) is in
    let ahead : IsNext names (get_or names f []) (suc f) (get_or met p 0) =
    subst (λ (w : List ℕ). IsNext names w (suc f) (get_or met p 0)) same (m.firsts p found.0 first) in
    record {
      long_next = length-set next f (get_or met p 0) ∙ m.long_next;
      long_met = length-set met p f ∙ m.long_met;
      low = omega arith;
      firsts = firsts_more names f p met (let inside = found.0 in let long = m.long_met in omega arith) low same is m.firsts;
      nexts = nexts_more names f (get_or met p 0) next (let long = m.long_next in omega arith) ahead m.nexts;
    }

-- the name of a feature is among the names
pub name_read : (fs : List Feature) (h : ℕ) (x : Feature) → h < length fs → x ≡ get_or fs h x → get_or (map (λ f. f.name) fs) h [] ≡ x.name
name_read [] h x low is = absurd (omega arith)
name_read (y ∷ fs) zero x low is = ap (λ (f : Feature). f.name) (sym is)
name_read (y ∷ fs) (suc h) x low is = name_read fs h x (omega arith) is
