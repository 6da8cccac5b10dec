-- The indexes of a class's names in the list that was gathered.
use Rattle.std.proofs.Common.{◌≡◌, ◌∙◌, ◌+◌, ◌++◌, ◌⊎◌, Bool, true, false, List, [], ◌∷◌, ℕ, Some, ⊎_elim, inl, inr, suc, zero, ap, arith, length, refl, sym}
use Rattle.std.specs.List.{slice_get, slice_index_or}
use Rattle.std.proofs.lemmas.Option.{slice_get_within}
use Rattle.mm_graph.specs.Gathered.{gathered_names}
use Rattle.mm_graph.specs.Sets.{is_in}

-- the index, in the whole list, of the name that a class declares at an index of its own
abbrev pub place_of : List Bool → List (List (List ℕ)) → ℕ → ℕ → ℕ
place_of [] nss c i = i
place_of (b ∷ bs) [] c i = i
place_of (b ∷ bs) (ns ∷ nss) zero i = i
place_of (true ∷ bs) (ns ∷ nss) (suc c) i = length ns + place_of bs nss c i
place_of (false ∷ bs) (ns ∷ nss) (suc c) i = place_of bs nss c i

get_left : (xs ys : List (List ℕ)) (i : ℕ) (n : List ℕ) → slice_get xs i ≡ Some n → slice_get (xs ++ ys) i ≡ Some n
get_left [] ys i n h = cc
get_left (x ∷ xs) ys zero n h = h
get_left (x ∷ xs) ys (suc i) n h = get_left xs ys i n h

get_right : (xs ys : List (List ℕ)) (i j : ℕ) → j ≡ length xs + i → slice_get (xs ++ ys) j ≡ slice_get ys i
get_right [] ys i j e = ap (slice_get ys) (omega arith)
get_right (x ∷ xs) ys i zero e = absurd (omega arith)
get_right (x ∷ xs) ys i (suc j) e = get_right xs ys i j (omega arith)

get_cases : (xs ys : List (List ℕ)) (p : ℕ) (n : List ℕ) → slice_get (xs ++ ys) p ≡ Some n
    → (slice_get xs p ≡ Some n) ⊎ ((q : ℕ) × (p ≡ length xs + q) × (slice_get ys q ≡ Some n))
get_cases [] ys p n h = inr (p, omega arith, h)
get_cases (x ∷ xs) ys zero n h = inl h
get_cases (x ∷ xs) ys (suc p) n h = ⊎_elim
    (λ (l : slice_get xs p ≡ Some n). inl l)
    (λ (r : (q : ℕ) × (p ≡ length xs + q) × (slice_get ys q ≡ Some n)). inr (r.0, (let e = r.1 in omega arith), r.2))
    (get_cases xs ys p n h)

-- a declared name is at its index
pub declared_place : (bs : List Bool) (nss : List (List (List ℕ))) (c i : ℕ) (n : List ℕ) → is_in bs c ≡ true
    → slice_get (slice_index_or nss c []) i ≡ Some n → slice_get (gathered_names bs nss) (place_of bs nss c i) ≡ Some n
declared_place [] nss c i n kept at = cc
declared_place (b ∷ bs) [] c i n kept at = cc
declared_place (true ∷ bs) (ns ∷ nss) zero i n kept at = get_left ns (gathered_names bs nss) i n at
declared_place (false ∷ bs) (ns ∷ nss) zero i n kept at = cc
declared_place (true ∷ bs) (ns ∷ nss) (suc c) i n kept at =
    get_right ns (gathered_names bs nss) (place_of bs nss c i) _ refl ∙ declared_place bs nss c i n kept at
declared_place (false ∷ bs) (ns ∷ nss) (suc c) i n kept at = declared_place bs nss c i n kept at

-- a class of the set declares the name that is at an index
pub record HasPlace (bs : List Bool) (nss : List (List (List ℕ))) (p : ℕ) (n : List ℕ) : Type 0 where
  pub class : ℕ
  pub index : ℕ
  pub kept : is_in bs class ≡ true
  pub at : slice_get (slice_index_or nss class []) index ≡ Some n
  pub place : place_of bs nss class index ≡ p

pub has_place : (bs : List Bool) (nss : List (List (List ℕ))) (p : ℕ) (n : List ℕ) → slice_get (gathered_names bs nss) p ≡ Some n → HasPlace bs nss p n
has_place [] nss p n h = cc
has_place (b ∷ bs) [] p n h = cc
has_place (true ∷ bs) (ns ∷ nss) p n h = ⊎_elim
    (λ (l : slice_get ns p ≡ Some n). record { class = 0; index = p; kept = refl; at = l; place = refl })
    (λ (r : (q : ℕ) × (p ≡ length ns + q) × (slice_get (gathered_names bs nss) q ≡ Some n)).
    let d = has_place bs nss r.0 n r.2 in
    record { class = suc d.class; index = d.index; kept = d.kept; at = d.at; place = ap (λ q. length ns + q) d.place ∙ sym r.1 })
    (get_cases ns (gathered_names bs nss) p n h)
has_place (false ∷ bs) (ns ∷ nss) p n h =
    let d = has_place bs nss p n h in
    record { class = suc d.class; index = d.index; kept = d.kept; at = d.at; place = d.place }

-- no two declared names are at one index
pub same_place : (bs : List Bool) (nss : List (List (List ℕ))) (c i d j : ℕ) (n : List ℕ)
    → is_in bs c ≡ true → slice_get (slice_index_or nss c []) i ≡ Some n → is_in bs d ≡ true → slice_get (slice_index_or nss d []) j ≡ Some n
    → place_of bs nss c i ≡ place_of bs nss d j → (c ≡ d) × (i ≡ j)
same_place [] nss c i d j n ck ci dk dj e = cc
same_place (b ∷ bs) [] c i d j n ck ci dk dj e = cc
same_place (b ∷ bs) (ns ∷ nss) zero i zero j n ck ci dk dj e = (refl, e)
same_place (true ∷ bs) (ns ∷ nss) zero i (suc d) j n ck ci dk dj e = let low = slice_get_within ns i n ci in absurd (omega arith)
same_place (false ∷ bs) (ns ∷ nss) zero i (suc d) j n ck ci dk dj e = cc
same_place (true ∷ bs) (ns ∷ nss) (suc c) i zero j n ck ci dk dj e = let low = slice_get_within ns j n dj in absurd (omega arith)
same_place (false ∷ bs) (ns ∷ nss) (suc c) i zero j n ck ci dk dj e = cc
same_place (true ∷ bs) (ns ∷ nss) (suc c) i (suc d) j n ck ci dk dj e =
    let p = same_place bs nss c i d j n ck ci dk dj (omega arith) in
    (ap suc p.0, p.1)
same_place (false ∷ bs) (ns ∷ nss) (suc c) i (suc d) j n ck ci dk dj e =
    let p = same_place bs nss c i d j n ck ci dk dj e in
    (ap suc p.0, p.1)
