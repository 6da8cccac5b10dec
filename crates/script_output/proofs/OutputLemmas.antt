-- Texts that are appended to the output.
use Rattle.std.proofs.Common.{◌∙◌, ◌≡◌, ◌++◌, ◌∷◌, ◌||◌, ◌==◌, ◌<◌, ◌≤◌, ◌/◌, ◌%◌, ◌^◌, ℕ, ℤ, pos, negsuc, int_le, unsigned_abs, nat_lt, Bool, true, false, true≢false, List, [], ap, append-nil, append_assoc, arith, refl, sym}
use Rattle.std.specs.Fmt.{decimal, signed_decimal}
use Rattle.std.proofs.lemmas.Fmt.{decimal_digit, decimal_step}
use Rattle.std.specs.List.{list_any}
use Rattle.std.proofs.lemmas.Bool.{eqb-false, ltb-false, or_parts}
use Rattle.json.specs.Run.{is_stop}
use Rattle.json.proofs.Printed.Strings.{escape_byte_plain}
use Rattle.json.specs.Token.{Token, string}
use Rattle.json.specs.Print.{escape, print, print_from, quoted}

-- one string token is printed as the text in its quotation marks
pub one_string : (out old before t : List ℕ) (start new : List Token) → out ≡ before ++ print new → before ≡ old → start ≡ []
    → new ≡ start ++ string t ∷ [] → out ≡ old ++ quoted t
unfolding print_from
one_string out old before t start new is kept empty one =
    is ∙ (ap (λ x. x ++ print new) kept ∙ ap (λ x. old ++ print x) (one ∙ ap (λ x. x ++ string t ∷ []) empty)) ∙ ap (λ x. old ++ x) (append-nil (quoted t))

-- a text without escapes is printed unchanged between quotation marks
unescaped : (t : List ℕ) → list_any is_stop t ≡ false → escape t ≡ t
unescaped [] h = refl
unescaped (x ∷ xs) h =
    let tests = or_parts (is_stop x) (list_any is_stop xs) h in
    let marks = or_parts ((x == 34) || (x == 92)) (nat_lt x 32) tests.0 in
    let both = or_parts (x == 34) (x == 92) marks.0 in
    λ i. escape_byte_plain x (eqb-false x 34 both.0) (eqb-false x 92 both.1) (ltb-false x 32 marks.1) i ++ unescaped xs tests.1 i

pub plain_string : (t : List ℕ) → list_any is_stop t ≡ false → 34 ∷ (t ++ 34 ∷ []) ≡ quoted t
plain_string t h = ap (λ x. 34 ∷ (x ++ 34 ∷ [])) (sym (unescaped t h))

-- the digits of a number are the digits before the last one, and the last one
pub decimal_split : (old mid new : List ℕ) (n : ℕ) → 10 ≤ n → n < 2 ^ 64 → mid ≡ old ++ decimal (n / 10) → new ≡ mid ++ decimal (n % 10) → new ≡ old ++ decimal n
decimal_split old mid new n lo hi first last =
    last ∙ ap (λ x. x ++ decimal (n % 10)) first ∙ append_assoc old (decimal (n / 10)) (decimal (n % 10))
    ∙ ap (λ x. old ++ x) (ap (λ x. decimal (n / 10) ++ x) (decimal_digit (n % 10) (omega arith)) ∙ sym (decimal_step n lo hi))

-- a number that is not negative has no sign
pub not_minus : (z : ℤ) → int_le (pos 0) z ≡ true → decimal (unsigned_abs z) ≡ signed_decimal z
not_minus (pos n) e = refl
not_minus (negsuc n) e = absurd (true≢false (sym e))
