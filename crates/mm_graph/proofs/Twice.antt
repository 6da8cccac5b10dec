-- A name that occurs twice in a list, by its two indexes.
use Rattle.std.proofs.Common.{◌≡◌, ◌∙◌, ◌<◌, ◌++◌, ◌||◌, ◌⊎◌, Bool, true, false, List, [], ◌∷◌, ℕ, Some, ⊎_elim, inl, inr, suc, zero, ap, arith, refl, sym}
use Rattle.std.specs.List.{slice_get}
use Rattle.std.specs.Str.{bytes_eq}
use Rattle.std.proofs.lemmas.List.Folds.{list_any-append}
use Rattle.std.proofs.lemmas.Slice.Eq.{bytes_eq-Decides}
use Rattle.mm_types.specs.Names.{is_among, repeats}

pub record IsTwice (xs : List (List ℕ)) : Type 0 where
  pub first : ℕ
  pub second : ℕ
  pub name : List ℕ
  pub below : first < second
  pub here : slice_get xs first ≡ Some name
  pub there : slice_get xs second ≡ Some name

-- a name of the list is among those seen
record IsSeen (seen xs : List (List ℕ)) : Type 0 where
  place : ℕ
  name : List ℕ
  at : slice_get xs place ≡ Some name
  among : is_among seen name ≡ true

pub or_left : (a b : Bool) → a ≡ true → (a || b) ≡ true
or_left true b h = refl
or_left false b h = cc

pub or_right : (a b : Bool) → b ≡ true → (a || b) ≡ true
or_right true b h = refl
or_right false b h = h

or_cases : (a b : Bool) → (a || b) ≡ true → (a ≡ true) ⊎ (b ≡ true)
or_cases true b h = inl refl
or_cases false b h = inr h

among_grown : (seen : List (List ℕ)) (x n : List ℕ) → is_among seen n ≡ true → is_among (seen ++ x ∷ []) n ≡ true
among_grown seen x n h = list_any-append (bytes_eq n) seen (x ∷ []) ∙ or_left (is_among seen n) (is_among (x ∷ []) n) h

among_last : (seen : List (List ℕ)) (x n : List ℕ) → n ≡ x → is_among (seen ++ x ∷ []) n ≡ true
among_last seen x n h =
    list_any-append (bytes_eq n) seen (x ∷ [])
    ∙ or_right (is_among seen n) (is_among (x ∷ []) n) (or_left (bytes_eq n x) false ((bytes_eq-Decides n x).1 h))

among_cases : (seen : List (List ℕ)) (x n : List ℕ) → is_among (seen ++ x ∷ []) n ≡ true → (is_among seen n ≡ true) ⊎ (n ≡ x)
among_cases seen x n h = ⊎_elim
    (λ (a : is_among seen n ≡ true). inl a)
    (λ (b : is_among (x ∷ []) n ≡ true). ⊎_elim
    (λ (e : bytes_eq n x ≡ true). inr ((bytes_eq-Decides n x).0 e))
    (λ (e : false ≡ true). absurd cc)
    (or_cases (bytes_eq n x) false b))
    (or_cases (is_among seen n) (is_among (x ∷ []) n) (sym (list_any-append (bytes_eq n) seen (x ∷ [])) ∙ h))

seen_repeats : (seen xs : List (List ℕ)) (i : ℕ) (n : List ℕ) → slice_get xs i ≡ Some n → is_among seen n ≡ true → repeats seen xs ≡ true
seen_repeats seen [] i n at h = cc
seen_repeats seen (x ∷ xs) zero n at h =
    let e : x ≡ n = cc in
    or_left (is_among seen x) (repeats (seen ++ x ∷ []) xs) (ap (is_among seen) e ∙ h)
seen_repeats seen (x ∷ xs) (suc i) n at h =
    or_right (is_among seen x) (repeats (seen ++ x ∷ []) xs) (seen_repeats (seen ++ x ∷ []) xs i n at (among_grown seen x n h))

twice_repeats : (seen xs : List (List ℕ)) (i j : ℕ) (n : List ℕ) → i < j → slice_get xs i ≡ Some n → slice_get xs j ≡ Some n
    → repeats seen xs ≡ true
twice_repeats seen [] i j n below here there = cc
twice_repeats seen (x ∷ xs) i zero n below here there = absurd (omega arith)
twice_repeats seen (x ∷ xs) zero (suc j) n below here there =
    let e : n ≡ x = cc in
    or_right (is_among seen x) (repeats (seen ++ x ∷ []) xs) (seen_repeats (seen ++ x ∷ []) xs j n there (among_last seen x n e))
twice_repeats seen (x ∷ xs) (suc i) (suc j) n below here there =
    or_right (is_among seen x) (repeats (seen ++ x ∷ []) xs) (twice_repeats (seen ++ x ∷ []) xs i j n (omega arith) here there)

repeats_cases : (seen xs : List (List ℕ)) → repeats seen xs ≡ true → IsSeen seen xs ⊎ IsTwice xs
repeats_cases seen [] h = cc
repeats_cases seen (x ∷ xs) h = ⊎_elim
    (λ (a : is_among seen x ≡ true). inl (record { place = 0; name = x; at = refl; among = a }))
    (λ (r : repeats (seen ++ x ∷ []) xs ≡ true). ⊎_elim
    (λ (s : IsSeen (seen ++ x ∷ []) xs). ⊎_elim
    (λ (a : is_among seen s.name ≡ true). inl (record { place = suc s.place; name = s.name; at = s.at; among = a }))
    (λ (e : s.name ≡ x). inr (record { first = 0; second = suc s.place; name = s.name; below = omega arith; here = ap Some (sym e); there = s.at }))
    (among_cases seen x s.name s.among))
    (λ (t : IsTwice xs). inr (record { first = suc t.first; second = suc t.second; name = t.name; below = (let b = t.below in omega arith); here = t.here; there = t.there }))
    (repeats_cases (seen ++ x ∷ []) xs r))
    (or_cases (is_among seen x) (repeats (seen ++ x ∷ []) xs) h)

-- A list repeats a name exactly if it is at two indexes.
pub repeats_twice : (xs : List (List ℕ)) → repeats [] xs ≡ true → IsTwice xs
repeats_twice xs h = ⊎_elim
    (λ (s : IsSeen [] xs). let no : false ≡ true = s.among in absurd cc)
    (λ (t : IsTwice xs). t)
    (repeats_cases [] xs h)

pub twice_repeated : (xs : List (List ℕ)) → IsTwice xs → repeats [] xs ≡ true
twice_repeated xs t = twice_repeats [] xs t.first t.second t.name t.below t.here t.there
