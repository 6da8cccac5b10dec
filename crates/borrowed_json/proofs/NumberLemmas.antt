-- A text of digits is read as the number that they write.
use Rattle.std.proofs.Common.{◌≡◌, ◌∙◌, ◌<◌, ◌≤◌, ◌-◌, ◌^◌, ◌++◌, false, List, [], ◌∷◌, ℕ, Some, ap, append-nil, arith, get_or, length, lt-ltb, ne_eqb, refl, sym}
use Rattle.std.proofs.lemmas.Str.{digit_value_digit}
use Rattle.std.specs.Char.{digit_value}
use Rattle.std.specs.Str.Parse.{AllDigits, digits_value}
use Rattle.fast_float.specs.Text.{IsWellFormed, Parts, digits_of, scan}
use Rattle.fast_float.proofs.Writing.{scan-text_of}
use Rattle.serde_json.specs.Data.{unsigned}
use Rattle.serde_json.specs.Read.{number_from, number_of}

no_minus : (ds : List ℕ) → AllDigits 10 ds → 0 < length ds → get_or ds 0 0 ≡ 45 → ⊥
no_minus [] h some e = omega arith
no_minus (d ∷ ds) h some e = let digit : digit_value d < 10 = h.0 in let is : d ≡ 45 = e in grind arith

pub digit-is : (c : ℕ) → 48 ≤ c → c ≤ 57 → digit_value c ≡ c - 48
digit-is c low high = let e = digit_value_digit c (low, high) in omega (arith, e)

abbrev whole : List ℕ → Parts
whole ds = record { whole = ds; point = false; fraction = []; exponent_negative = false; exponent = []; len = length (ds ++ []) }

pub digits-read : (ds : List ℕ) → AllDigits 10 ds → 0 < length ds → digits_value 10 ds < 2 ^ 64 → number_of ds ≡ Some (unsigned (digits_value 10 ds))
unfolding number_of
digits-read ds h some fits =
    let formed : IsWellFormed (whole ds) = record { whole_digits = h; fraction_digits = tt; exponent_digits = tt; no_point = λ _. refl; no_exponent = λ _. refl; len_is = refl } in
    let parts : scan ds ≡ whole ds = ap scan (sym (append-nil ds)) ∙ scan-text_of (whole ds) formed in
    let value : digits_of (whole ds) ≡ digits_value 10 ds = ap (digits_value 10) (append-nil ds) in
    rw (ne_eqb (get_or ds 0 0) 45 (no_minus ds h some)) (ap (number_from false) parts ∙ rw (lt-ltb _ _ some, value, lt-ltb _ _ fits))
