-- Rows of features, merged.
use Rattle.std.proofs.Common.{◌≢◌, ⊎_elim, set, get_or-set_same, get_or-set_other, ◌≡◌, ◌∙◌, ◌+◌, ◌<◌, ◌++◌, ◌||◌, Bool, true, false, List, [], ◌∷◌, ℕ, suc, zero, ap, arith, cond, get_or, length, eqb, refl, sym}
use Rattle.std.specs.List.{All, flat_map, list_any}
use Rattle.std.proofs.lemmas.Bool.{eqb-true, cases_eq}
use Rattle.std.proofs.lemmas.List.Folds.{list_any-append}
use Rattle.std.proofs.Math.Bool.{or-false, or-true, or_assoc}
use Rattle.mm_types.specs.Graph.{by_class}
use Rattle.mm_types.specs.Features.{all_features, first_occurrences, listed_features, with_new}
use Rattle.mm_graph.specs.Rows.{with_rows}
use Rattle.mm_graph.specs.Order.{IsOrder}

pub with_new-append : (seen xs ys : List ℕ) → with_new seen (xs ++ ys) ≡ with_new (with_new seen xs) ys
with_new-append seen [] ys = refl
with_new-append seen (x ∷ xs) ys = with_new-append (cond (list_any (eqb x) seen) seen (seen ++ x ∷ [])) xs ys

or_known : (b e : Bool) → (e ≡ true → b ≡ true) → (b || e) ≡ b
or_known true e h = refl
or_known false true h = sym (h refl)
or_known false false h = refl

same_number : (x y : ℕ) → eqb x y ≡ true → x ≡ y
same_number x y h = eqb-true x y h

any_grown : (x y : ℕ) (acc : List ℕ) (t : Bool) → list_any (eqb y) acc ≡ t
    → list_any (eqb x) (cond t acc (acc ++ y ∷ [])) ≡ (list_any (eqb x) acc || eqb x y)
any_grown x y acc true is = sym (or_known (list_any (eqb x) acc) (eqb x y) (λ e. ap (λ (n : ℕ). list_any (eqb n) acc) (same_number x y e) ∙ is))
any_grown x y acc false is = list_any-append (eqb x) acc (y ∷ []) ∙ ap (λ b. list_any (eqb x) acc || b) (or-false (eqb x y))

-- the members of a list after the elements of another list that it lacks were appended
pub any-with_new : (x : ℕ) (acc ys : List ℕ) → list_any (eqb x) (with_new acc ys) ≡ (list_any (eqb x) acc || list_any (eqb x) ys)
any-with_new x acc [] = sym (or-false (list_any (eqb x) acc))
any-with_new x acc (y ∷ ys) =
    any-with_new x (cond (list_any (eqb y) acc) acc (acc ++ y ∷ [])) ys
    ∙ (ap (λ b. b || list_any (eqb x) ys) (any_grown x y acc (list_any (eqb y) acc) refl)
    ∙ or_assoc (list_any (eqb x) acc) (eqb x y) (list_any (eqb x) ys))

one_more : (acc seen : List ℕ) (x : ℕ) (t : Bool) → list_any (eqb x) seen ≡ t
    → with_new acc (cond t seen (seen ++ x ∷ [])) ≡ with_new (with_new acc seen) (x ∷ [])
one_more acc seen x true is =
    let there : list_any (eqb x) (with_new acc seen) ≡ true = any-with_new x acc seen ∙ (ap (λ b. list_any (eqb x) acc || b) is ∙ or-true (list_any (eqb x) acc)) in
    sym (ap (λ b. cond b (with_new acc seen) (with_new acc seen ++ x ∷ [])) there)
one_more acc seen x false is = with_new-append acc seen (x ∷ [])

pub with_new_twice : (acc seen xs : List ℕ) → with_new acc (with_new seen xs) ≡ with_new (with_new acc seen) xs
with_new_twice acc seen [] = refl
with_new_twice acc seen (x ∷ xs) =
    with_new_twice acc (cond (list_any (eqb x) seen) seen (seen ++ x ∷ [])) xs
    ∙ ap (λ s. with_new s xs) (one_more acc seen x (list_any (eqb x) seen) refl)

-- Appending the first occurrences of a list gives the same as appending the list itself.
pub with_new_firsts : (acc xs : List ℕ) → with_new acc (first_occurrences xs) ≡ with_new acc xs
with_new_firsts acc xs = with_new_twice acc [] xs

-- each row that is made has the first occurrences of the features that its class lists
pub with_rows_listed : (rows : List (List ℕ)) (f : ℕ → List ℕ) (seen es : List ℕ)
    → All (λ (e : ℕ). by_class rows e ≡ first_occurrences (f e)) es → with_rows rows seen es ≡ with_new seen (flat_map f es)
with_rows_listed rows f seen [] h = refl
with_rows_listed rows f seen (e ∷ es) h =
    ap (λ s. with_rows rows s es) (ap (with_new seen) (h 0 0 (omega arith)) ∙ with_new_firsts seen (f e))
    ∙ (with_rows_listed rows f (with_new seen (f e)) es (λ k d low. h (suc k) d (omega arith))
    ∙ sym (with_new-append seen (f e) (flat_map f es)))

same_flat : (f h : ℕ → List ℕ) (es : List ℕ) → All (λ (e : ℕ). f e ≡ h e) es → flat_map f es ≡ flat_map h es
same_flat f h [] all = refl
same_flat f h (e ∷ es) all =
    ap (λ s. s ++ flat_map f es) (all 0 0 (omega arith)) ∙ ap (λ s. h e ++ s) (same_flat f h es (λ k d low. all (suc k) d (omega arith)))

-- All depths past a class's index in the order list the same features.
pub same_listed : (g own : List (List ℕ)) (order : List ℕ) → IsOrder g order → (k m j : ℕ) → j < k → j < m → j < length order
    → listed_features g own k (get_or order j 0) ≡ listed_features g own m (get_or order j 0)
same_listed g own order o zero m j low below within = absurd (omega arith)
same_listed g own order o (suc k) zero j low below within = absurd (omega arith)
same_listed g own order o (suc k) (suc m) j low below within =
    ap (λ s. s ++ by_class own (get_or order j 0)) (same_flat (listed_features g own k) (listed_features g own m) (by_class g (get_or order j 0))
    (λ i d less.
    let p = o.behind j within i d less in
    rw (← p.2) (same_listed g own order o k m p.0 (omega arith) (omega arith) (omega arith))))

-- The row of the next class is made of the rows before it.
pub made_next : (g own rows : List (List ℕ)) (order : List ℕ) (i : ℕ) → IsOrder g order → i < length order
    → ((j : ℕ) → j < i → by_class rows (get_or order j 0) ≡ all_features g own (get_or order j 0))
    → with_new (with_rows rows [] (by_class g (get_or order i 0))) (by_class own (get_or order i 0)) ≡ all_features g own (get_or order i 0)
unfolding all_features
made_next g own rows order i o within made =
    let c = get_or order i 0 in
    let n = length g in
    let known : All (λ (e : ℕ). by_class rows e ≡ first_occurrences (listed_features g own n e)) (by_class g c) =
    λ k d low. (let p = o.behind i within k d low in rw (← p.2) (made p.0 p.1)) in
    ap (λ s. with_new s (by_class own c)) (with_rows_listed rows (listed_features g own n) [] (by_class g c) known)
    ∙ (sym (with_new-append [] (flat_map (listed_features g own n) (by_class g c)) (by_class own c))
    ∙ ap first_occurrences (same_listed g own order o (suc n) n i (omega (arith, o.long)) (omega (arith, o.long)) within))

pub row_set : (rows : List (List ℕ)) (c : ℕ) (made : List ℕ) (f : ℕ → List ℕ) (d : ℕ) → c < length rows → made ≡ f c
    → (d ≢ c → by_class rows d ≡ f d) → by_class (set rows c made) d ≡ f d
row_set rows c made f d within is other = ⊎_elim
    (λ (e : d ≡ c). rw e (get_or-set_same rows c made [] within ∙ is))
    (λ (n : d ≢ c). get_or-set_other rows c d made [] n ∙ other n) (cases_eq d c)

-- one more class's row is made
pub rows_next : (g own rows : List (List ℕ)) (order supers features made : List ℕ) (i : ℕ) → IsOrder g order → i < length order → length rows ≡ length g
    → ((j : ℕ) → j < i → by_class rows (get_or order j 0) ≡ all_features g own (get_or order j 0))
    → supers ≡ by_class g (get_or order i 0) → features ≡ by_class own (get_or order i 0) → made ≡ with_new (with_rows rows [] supers) features
    → (j : ℕ) → j < i + 1 → by_class (set rows (get_or order i 0) made) (get_or order j 0) ≡ all_features g own (get_or order j 0)
rows_next g own rows order supers features made i o within long known supers_are features_are made_is j below =
    let low : get_or order i 0 < length g = o.within i 0 within in
    let is = rw (supers_are, features_are) at made_is in
    row_set rows (get_or order i 0) made (all_features g own) (get_or order j 0) (omega arith) (is ∙ made_next g own rows order i o within known)
    (λ other. known j (let n : j ≢ i = λ e. other (ap (λ k. get_or order k 0) e) in omega arith))
