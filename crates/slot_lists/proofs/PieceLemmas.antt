-- The values of all pieces after an edit of one piece, or of two neighbours.
use Rattle.std.proofs.Common.{◌≡◌, ℕ, ◌+◌, ◌-◌, ◌*◌, ◌<◌, ◌≤◌, min, zero, suc, List, [], ◌∷◌, ◌++◌, length, get_or, set, refl, sym, ◌∙◌, ap, append_assoc, length-append, arith}
use Rattle.std.proofs.lemmas.List.Edits.{insert-append_left, insert-append_right, remove-append_left, remove-append_right}
use Rattle.std.specs.List.{insert, remove, slice_get}
use Rattle.slot_lists.specs.Pieces.{joined_values, IsFilled}

-- the first value of a piece goes to the end of the piece before it
pub joined_values-lower : {T : Type 0} (cs : List (List T)) (k : ℕ) (y : T) (ys : List T) → suc k < length cs → get_or cs (suc k) [] ≡ y ∷ ys → joined_values (set (set cs (suc k) ys) k (get_or cs k [] ++ y ∷ [])) ≡ joined_values cs
joined_values-lower [] k y ys h e = absurd (omega arith)
joined_values-lower (a ∷ []) k y ys h e = absurd (omega arith)
joined_values-lower (a ∷ b ∷ cs) zero y ys h e = append_assoc a (y ∷ []) (ys ++ joined_values cs) ∙ ap (λ p. a ++ (p ++ joined_values cs)) (sym e)
joined_values-lower (a ∷ b ∷ cs) (suc k) y ys h e = ap (λ p. a ++ p) (joined_values-lower (b ∷ cs) k y ys (omega arith) e)

-- the last value of a piece goes to the front of the piece after it
pub joined_values-raise : {T : Type 0} (cs : List (List T)) (k : ℕ) (ys : List T) (y : T) → suc k < length cs → get_or cs k [] ≡ ys ++ y ∷ [] → joined_values (set (set cs k ys) (suc k) (y ∷ get_or cs (suc k) [])) ≡ joined_values cs
joined_values-raise [] k ys y h e = absurd (omega arith)
joined_values-raise (a ∷ []) k ys y h e = absurd (omega arith)
joined_values-raise (a ∷ b ∷ cs) zero ys y h e = sym (append_assoc ys (y ∷ []) (b ++ joined_values cs)) ∙ ap (λ p. p ++ (b ++ joined_values cs)) (sym e)
joined_values-raise (a ∷ b ∷ cs) (suc k) ys y h e = ap (λ p. a ++ p) (joined_values-raise (b ∷ cs) k ys y (omega arith) e)

-- the pieces before the k-th are full
abbrev pub FullBefore : {T : Type 0} → ℕ → List (List T) → Type 0
FullBefore k cs = (j : ℕ) → j < k → length (get_or cs j []) ≡ 1024

tail-full : {T : Type 0} (k : ℕ) (a : List T) (cs : List (List T)) → FullBefore (suc k) (a ∷ cs) → FullBefore k cs
tail-full k a cs full = λ j h. full (suc j) (omega arith)

-- an insert in a piece
pub joined_values-insert : {T : Type 0} (cs : List (List T)) (k at p : ℕ) (y : T) → k < length cs → FullBefore k cs → at ≤ length (get_or cs k []) → p ≡ 1024 * k + at → joined_values (set cs k (insert (get_or cs k []) at y)) ≡ insert (joined_values cs) p y
joined_values-insert [] k at p y h full le e = absurd (omega arith)
joined_values-insert (a ∷ cs) zero at p y h full le e =
    let same : p ≡ at = omega arith in
    rw same (sym (insert-append_left a (joined_values cs) at y le))
joined_values-insert (a ∷ cs) (suc k) at p y h full le e =
    let long : length a ≡ 1024 = full zero (omega arith) in
    let rest = joined_values-insert cs k at (p - 1024) y (omega arith) (tail-full k a cs full) le (omega arith) in
    ap (λ q. a ++ q) rest ∙ sym (insert-append_right a (joined_values cs) 1024 p y long (omega arith))

-- a removal in a piece
pub joined_values-remove : {T : Type 0} (cs : List (List T)) (k at p : ℕ) → k < length cs → FullBefore k cs → at < length (get_or cs k []) → p ≡ 1024 * k + at → joined_values (set cs k (remove (get_or cs k []) at)) ≡ remove (joined_values cs) p
joined_values-remove [] k at p h full le e = absurd (omega arith)
joined_values-remove (a ∷ cs) zero at p h full le e =
    let same : p ≡ at = omega arith in
    rw same (sym (remove-append_left a (joined_values cs) at le))
joined_values-remove (a ∷ cs) (suc k) at p h full le e =
    let long : length a ≡ 1024 = full zero (omega arith) in
    let rest = joined_values-remove cs k at (p - 1024) (omega arith) (tail-full k a cs full) le (omega arith) in
    ap (λ q. a ++ q) rest ∙ sym (remove-append_right a (joined_values cs) 1024 p long (omega arith))

-- a read in a piece
pub slice_get-append_left : {T : Type 0} (xs ys : List T) (i : ℕ) → i < length xs → slice_get (xs ++ ys) i ≡ slice_get xs i
slice_get-append_left [] ys i h = absurd (omega arith)
slice_get-append_left (x ∷ xs) ys zero h = refl
slice_get-append_left (x ∷ xs) ys (suc i) h = slice_get-append_left xs ys i (omega arith)

pub slice_get-append_right : {T : Type 0} (xs ys : List T) (i j : ℕ) → i ≡ length xs + j → slice_get (xs ++ ys) i ≡ slice_get ys j
slice_get-append_right [] ys i j e = let same : i ≡ j = omega arith in ap (slice_get ys) same
slice_get-append_right (x ∷ xs) ys zero j e = absurd (omega arith)
slice_get-append_right (x ∷ xs) ys (suc i) j e = slice_get-append_right xs ys i j (omega arith)

pub joined_values-get : {T : Type 0} (cs : List (List T)) (k at p : ℕ) → k < length cs → FullBefore k cs → at < length (get_or cs k []) → p ≡ 1024 * k + at → slice_get (get_or cs k []) at ≡ slice_get (joined_values cs) p
joined_values-get [] k at p h full le e = absurd (omega arith)
joined_values-get (a ∷ cs) zero at p h full le e =
    let same : p ≡ at = omega arith in
    rw same (sym (slice_get-append_left a (joined_values cs) at le))
joined_values-get (a ∷ cs) (suc k) at p h full le e =
    let long : length a ≡ 1024 = full zero (omega arith) in
    joined_values-get cs k at (p - 1024) (omega arith) (tail-full k a cs full) le (omega arith) ∙ sym (slice_get-append_right a (joined_values cs) p (p - 1024) (omega arith))

-- the number of values in full pieces
pub length-joined_values : {T : Type 0} (n : ℕ) (cs : List (List T)) → IsFilled n cs → n ≤ 1024 * length cs → length (joined_values cs) ≡ n
length-joined_values n [] f le = omega arith
length-joined_values n (a ∷ cs) f le =
    let rest : IsFilled (n - 1024) cs = λ k. f (suc k) ∙ omega arith in
    let here : length a ≡ min 1024 n = f zero ∙ omega arith in
    let more = length-joined_values (n - 1024) cs rest (omega arith) in
    omega (arith, length-append a (joined_values cs))
