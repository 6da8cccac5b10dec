-- A list of names, one by one.
use Rattle.std.proofs.Common.{◌≡◌, ◌∙◌, ◌+◌, ◌<◌, ◌++◌, ◌||◌, Bor, Bool, true, false, not, List, [], ◌∷◌, ℕ, add-one, ap, cond, drop, drop-cons, get_or, length, map, refl, sym}
use Rattle.std.specs.List.{list_any}
use Rattle.std.specs.Str.{bytes_eq}
use Rattle.std.proofs.lemmas.List.{map-append}
use Rattle.mm_types.specs.Names.{is_among, repeats}

abbrev pub shown : List (Bor (List ℕ)) → List (List ℕ)
shown = map (λ s. s.now)

any_now : (keys : List (Bor (List ℕ))) (w : List ℕ) → is_among (shown keys) w ≡ list_any (λ k. bytes_eq w k.now) keys
any_now [] w = refl
any_now (k ∷ ks) w = rw (any_now ks w) refl

at_name : (seen : List (List ℕ)) (fs : List (Bor (List ℕ))) (i : ℕ) (d : Bor (List ℕ)) → i < length fs
    → repeats seen (shown (drop i fs)) ≡ (is_among seen (get_or fs i d).now || repeats (seen ++ (get_or fs i d).now ∷ []) (shown (drop (i + 1) fs)))
at_name seen fs i d within = rw (add-one, drop-cons fs i d) refl

there : (b r : Bool) → r ≡ not b → r ≡ false → b ≡ true
there true r e h = refl
there false r e h = cc

absent : (b r : Bool) → r ≡ not b → r ≡ true → b ≡ false
absent true r e h = cc
absent false r e h = refl

pub seen_before : (keys fs : List (Bor (List ℕ))) (i : ℕ) (d : Bor (List ℕ)) (new all : Bool) → i < length fs
    → new ≡ not (list_any (λ k. bytes_eq (get_or fs i d).now k.now) keys) → new ≡ false
    → repeats (shown keys) (shown (drop i fs)) ≡ all → true ≡ all
seen_before keys fs i d new all within added is h =
    let found : is_among (shown keys) (get_or fs i d).now ≡ true = any_now keys (get_or fs i d).now ∙ there _ _ added is in
    sym (ap (λ b. b || repeats (shown keys ++ (get_or fs i d).now ∷ []) (shown (drop (i + 1) fs))) found)
    ∙ (sym (at_name (shown keys) fs i d within) ∙ h)

pub one_more : (keys more fs : List (Bor (List ℕ))) (i : ℕ) (d : Bor (List ℕ)) (new all : Bool) → i < length fs
    → new ≡ not (list_any (λ k. bytes_eq (get_or fs i d).now k.now) keys) → new ≡ true
    → more ≡ cond (list_any (λ k. bytes_eq (get_or fs i d).now k.now) keys) keys (keys ++ get_or fs i d ∷ [])
    → repeats (shown keys) (shown (drop i fs)) ≡ all → repeats (shown more) (shown (drop (i + 1) fs)) ≡ all
one_more keys more fs i d new all within added is keys_are h =
    let no = absent _ _ added is in
    let found : is_among (shown keys) (get_or fs i d).now ≡ false = any_now keys (get_or fs i d).now ∙ no in
    let grown : shown more ≡ shown keys ++ (get_or fs i d).now ∷ [] =
    ap shown (keys_are ∙ ap (λ b. cond b keys (keys ++ get_or fs i d ∷ [])) no) ∙ map-append _ _ _ in
    ap (λ l. repeats l (shown (drop (i + 1) fs))) grown
    ∙ (sym (ap (λ b. b || repeats (shown keys ++ (get_or fs i d).now ∷ []) (shown (drop (i + 1) fs))) found)
    ∙ (sym (at_name (shown keys) fs i d within) ∙ h))
