-- The head of a journal is a line.
use Rattle.std.proofs.Common.{◌≡◌, ◌≢◌, ◌==◌, ◌++◌, ◌/◌, ◌%◌, ℕ, zero, suc, true, List, [], ◌∷◌, ap, arith, codes, not, refl, slice_index, subst, sym}
use Rattle.std.proofs.lemmas.Bool.{and_parts, both_ways}
use Rattle.std.proofs.lemmas.List.Elements.{All-append, All-cons, All-nil}
use Rattle.std.specs.List.{list_all}
use Rattle.hex.specs.Hex.{encode_lower, encode_with, lower_digits}
use Rattle.journal.specs.Lines.{IsLine}

-- bytes each of which is no newline are a line
line_of : (xs : List ℕ) → list_all (λ c. not (c == 10)) xs ≡ true → IsLine xs
line_of [] is = All-nil (λ c. c ≢ 10)
line_of (x ∷ xs) is =
    let parts = and_parts (not (x == 10)) (list_all (λ c. not (c == 10)) xs) is in
    All-cons (λ c. c ≢ 10) x xs (λ e. both_ways (not (x == 10)) (ap (λ c. not (c == 10)) e) parts.0) (line_of xs parts.1)

-- no digit is a newline
no_digit : (n : ℕ) → slice_index lower_digits n ≢ 10
no_digit zero is = let bad : 48 ≡ 10 = is in absurd (omega (arith, bad))
no_digit (suc zero) is = let bad : 49 ≡ 10 = is in absurd (omega (arith, bad))
no_digit (suc (suc zero)) is = let bad : 50 ≡ 10 = is in absurd (omega (arith, bad))
no_digit (suc (suc (suc zero))) is = let bad : 51 ≡ 10 = is in absurd (omega (arith, bad))
no_digit (suc (suc (suc (suc zero)))) is = let bad : 52 ≡ 10 = is in absurd (omega (arith, bad))
no_digit (suc (suc (suc (suc (suc zero))))) is = let bad : 53 ≡ 10 = is in absurd (omega (arith, bad))
no_digit (suc (suc (suc (suc (suc (suc zero)))))) is = let bad : 54 ≡ 10 = is in absurd (omega (arith, bad))
no_digit (suc (suc (suc (suc (suc (suc (suc zero))))))) is = let bad : 55 ≡ 10 = is in absurd (omega (arith, bad))
no_digit (suc (suc (suc (suc (suc (suc (suc (suc zero)))))))) is = let bad : 56 ≡ 10 = is in absurd (omega (arith, bad))
no_digit (suc (suc (suc (suc (suc (suc (suc (suc (suc zero))))))))) is = let bad : 57 ≡ 10 = is in absurd (omega (arith, bad))
no_digit (suc (suc (suc (suc (suc (suc (suc (suc (suc (suc zero)))))))))) is = let bad : 97 ≡ 10 = is in absurd (omega (arith, bad))
no_digit (suc (suc (suc (suc (suc (suc (suc (suc (suc (suc (suc zero))))))))))) is = let bad : 98 ≡ 10 = is in absurd (omega (arith, bad))
no_digit (suc (suc (suc (suc (suc (suc (suc (suc (suc (suc (suc (suc zero)))))))))))) is = let bad : 99 ≡ 10 = is in absurd (omega (arith, bad))
no_digit (suc (suc (suc (suc (suc (suc (suc (suc (suc (suc (suc (suc (suc zero))))))))))))) is = let bad : 100 ≡ 10 = is in absurd (omega (arith, bad))
no_digit (suc (suc (suc (suc (suc (suc (suc (suc (suc (suc (suc (suc (suc (suc zero)))))))))))))) is = let bad : 101 ≡ 10 = is in absurd (omega (arith, bad))
no_digit (suc (suc (suc (suc (suc (suc (suc (suc (suc (suc (suc (suc (suc (suc (suc zero))))))))))))))) is = let bad : 102 ≡ 10 = is in absurd (omega (arith, bad))
no_digit (suc (suc (suc (suc (suc (suc (suc (suc (suc (suc (suc (suc (suc (suc (suc (suc n)))))))))))))))) is = let bad : 0 ≡ 10 = is in absurd (omega (arith, bad))

pub digits_are_line : (bytes : List ℕ) → IsLine (encode_lower bytes)
unfolding encode_with
digits_are_line [] = All-nil (λ c. c ≢ 10)
digits_are_line (b ∷ rest) =
    All-cons (λ c. c ≢ 10) (slice_index lower_digits (b / 16)) (slice_index lower_digits (b % 16) ∷ encode_lower rest) (no_digit (b / 16))
    (All-cons (λ c. c ≢ 10) (slice_index lower_digits (b % 16)) (encode_lower rest) (no_digit (b % 16)) (digits_are_line rest))

pub head_is_line : (head bytes : List ℕ) → head ≡ codes "mmrepo-journal 1 " ++ encode_lower bytes → IsLine head
head_is_line head bytes is =
    subst IsLine (sym is) (All-append (λ c. c ≢ 10) (codes "mmrepo-journal 1 ") (encode_lower bytes) (line_of (codes "mmrepo-journal 1 ") refl) (digits_are_line bytes))
