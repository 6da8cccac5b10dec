-- Texts cut at the first byte that passes a test.
use Rattle.std.proofs.Common.{◌++◌, drop, refl, ◌≡◌, ◌+◌, ◌<◌, ◌∙◌, Bool, true, false, List, [], ◌∷◌, ℕ, ap, arith, length, sym}
use Rattle.std.proofs.Math.Seq.{drop-append-add, take-append_seam}
use Rattle.std.specs.Prelude.{◌||◌}
use Rattle.std.specs.List.{All, after_first, before_first, list_any, position_or_len, slice_split}
use Rattle.std.proofs.lemmas.List.Elements.{All-from_get_or}
use Rattle.std.proofs.lemmas.List.Folds.{list_any_at, list_any_none}
use Rattle.std.proofs.lemmas.List.Splits.{slice_split_first, slice_split_none}
use Rattle.std.proofs.lemmas.List.Sums.{fails_before_first, passes_at_first}

-- if the position of the first byte that passes is the length of the list, no byte passes
pub all_fail : (p : ℕ → Bool) (xs : List ℕ) → position_or_len p xs ≡ length xs → All (λ x. p x ≡ false) xs
all_fail p xs last = All-from_get_or (λ x. p x ≡ false) xs 0 (λ i below. fails_before_first p xs i 0 (omega (arith, below, last)))

pub none_passes : (p : ℕ → Bool) (xs : List ℕ) → position_or_len p xs ≡ length xs → list_any p xs ≡ false
none_passes p xs last = list_any_none p xs (all_fail p xs last)

pub one_passes : (p : ℕ → Bool) (xs : List ℕ) → position_or_len p xs < length xs → list_any p xs ≡ true
one_passes p xs below = list_any_at p xs (position_or_len p xs) 0 below (passes_at_first p xs 0 below)

---------------------------------------------------------------- what a text is cut into

-- a text with such a byte is split in two
pub split_in_two : (p : ℕ → Bool) (t a b : List ℕ) → a ≡ before_first p t → b ≡ after_first p t → position_or_len p t < length t → slice_split p t ≡ a ∷ slice_split p b
split_in_two p t a b before after below = slice_split_first p t 0 below ∙ ap (λ w. w ∷ slice_split p (after_first p t)) (sym before) ∙ ap (λ w. a ∷ slice_split p w) (sym after)

-- a text without a byte that passes is not split
pub split_whole : (p : ℕ → Bool) (t : List ℕ) → position_or_len p t ≡ length t → slice_split p t ≡ t ∷ []
split_whole p t last = slice_split_none p t (all_fail p t last)

---------------------------------------------------------------- two texts around one byte

neither_passes : (b c : Bool) → b || c ≡ false → (b ≡ false) × (c ≡ false)
neither_passes false c h = (refl, h)
neither_passes true c h = cc

drop_front : (w : List ℕ) (x : ℕ) (rest : List ℕ) → drop (length w + 1) (w ++ x ∷ rest) ≡ rest
drop_front w x rest = drop-append-add w (x ∷ rest) 1

pub first_at : (p : ℕ → Bool) (w : List ℕ) (x : ℕ) (rest : List ℕ) → list_any p w ≡ false → p x ≡ true → position_or_len p (w ++ x ∷ rest) ≡ length w
first_at p [] x rest none at = rw at refl
first_at p (c ∷ cs) x rest none at =
    let (this, others) = neither_passes (p c) (list_any p cs) none in
    rw this (let e = first_at p cs x rest others at in omega (arith, e))

pub before_around : (p : ℕ → Bool) (w : List ℕ) (x : ℕ) (rest : List ℕ) → list_any p w ≡ false → p x ≡ true → before_first p (w ++ x ∷ rest) ≡ w
before_around p w x rest none at = rw (first_at p w x rest none at) (take-append_seam w (x ∷ rest))

pub after_around : (p : ℕ → Bool) (w : List ℕ) (x : ℕ) (rest : List ℕ) → list_any p w ≡ false → p x ≡ true → after_first p (w ++ x ∷ rest) ≡ rest
after_around p w x rest none at = rw (first_at p w x rest none at) (drop_front w x rest)
