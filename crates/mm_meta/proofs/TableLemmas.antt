-- Lists of tables, and of numbers, that grow by one.
use Rattle.std.proofs.Common.{◌≡◌, ◌∙◌, ◌+◌, ◌-◌, ◌<◌, ◌≤◌, ◌++◌, ℕ, zero, suc, List, [], ◌∷◌, Option, None, ap, arith, get_or, length, map, refl, subst, sym, take}
use Rattle.std.specs.Prelude.{option_and_then, position, slice_get}
use Rattle.std.specs.List.{AllZip, range_with_len}
use Rattle.std.specs.Str.{bytes_eq}
use Rattle.mm_meta.specs.NameTable.{IsTableOf}
use Rattle.mm_meta.specs.declared.name_table.NameTable.{NameTable}
use Rattle.std.proofs.lemmas.List.{map-append, take_more}

zip_push : {A B : Type 0} (R : A → B → Type 0) (xs : List A) (ys : List B) (x : A) (y : B) → AllZip R xs ys → R x y → AllZip R (xs ++ x ∷ []) (ys ++ y ∷ [])
zip_push R [] [] x y h r = (r, tt)
zip_push R [] (b ∷ bs) x y h r = absurd h
zip_push R (a ∷ as') [] x y h r = absurd h
zip_push R (a ∷ as') (b ∷ bs) x y h r = (h.0, zip_push R as' bs x y h.1 r)

-- the first i + 1 items are the first i and one more
pub map-take_more : {A B : Type 0} (f : A → B) (xs : List A) (i : ℕ) (x : A) → i < length xs → x ≡ get_or xs i x → map f (take (i + 1) xs) ≡ map f (take i xs) ++ f x ∷ []
map-take_more f xs i x low is =
    ap (map f) (take_more xs i x low) ∙ (map-append f (take i xs) (get_or xs i x ∷ []) ∙ ap (λ y. map f (take i xs) ++ f y ∷ []) (sym is))

pub zip_more : {A B C : Type 0} (R : A → C → Type 0) (f : B → C) (xs : List A) (ys : List B) (i : ℕ) (x : A) (y : B) → i < length ys → y ≡ get_or ys i y
    → AllZip R xs (map f (take i ys)) → R x (f y) → AllZip R (xs ++ x ∷ []) (map f (take (i + 1) ys))
zip_more R f xs ys i x y low is h r = rw (map-take_more f ys i y low is) (zip_push R xs (map f (take i ys)) x (f y) h r)

pub range_more : (n end : ℕ) → n < end → range_with_len n (end - n) ≡ n ∷ range_with_len (n + 1) (end - (n + 1))
range_more n end low = let e : end - n ≡ suc (end - (n + 1)) = omega arith in rw e refl

-- the table at an index finds the names of the list at that index
pub found_at : (ts : List NameTable) (lists : List (List (List ℕ))) (i : ℕ) (t : NameTable) (name : List ℕ) (found : Option ℕ) → AllZip IsTableOf ts lists → i < length ts → t ≡ get_or ts i t
    → ((names : List (List ℕ)) → IsTableOf t names → found ≡ position (λ n. bytes_eq n name) names)
    → found ≡ option_and_then (position (λ n. bytes_eq n name)) (slice_get lists i)
found_at [] lists i t name found h low is tells = absurd (omega arith)
found_at (s ∷ ts) [] i t name found h low is tells = absurd h
found_at (s ∷ ts) (names ∷ lists) zero t name found h low is tells = tells names (subst (λ (u : NameTable). IsTableOf u names) (sym is) h.0)
found_at (s ∷ ts) (names ∷ lists) (suc i) t name found h low is tells = found_at ts lists i t name found h.1 (omega arith) is tells

pub none_at : (ts : List NameTable) (lists : List (List (List ℕ))) (i : ℕ) (name : List ℕ) → AllZip IsTableOf ts lists → length ts ≤ i
    → option_and_then (position (λ n. bytes_eq n name)) (slice_get lists i) ≡ None
none_at [] [] i name h past = refl
none_at [] (names ∷ lists) i name h past = absurd h
none_at (s ∷ ts) [] i name h past = refl
none_at (s ∷ ts) (names ∷ lists) zero name h past = absurd (omega arith)
none_at (s ∷ ts) (names ∷ lists) (suc i) name h past = none_at ts lists i name h.1 (omega arith)
