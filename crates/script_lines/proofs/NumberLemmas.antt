-- Numbers of up to nine digits, and what they write.
use Rattle.std.proofs.Common.{◌∙◌, ◌≡◌, ◌≢◌, ◌&&◌, ◌==◌, ◌+◌, ◌*◌, ◌<◌, ◌≤◌, ◌^◌, ℕ, zero, suc, Bool, true, false, List, [], ◌∷◌, None, Some, ap, arith, cond, drop, get_or, is_some, length, nat_lt, pos, refl, slice_index, sym, take, true≢false}
use Rattle.std.specs.Char.{is_ascii_digit}
use Rattle.std.specs.List.{after_first, before_first, list_all, position_or_len, prefix_len}
use Rattle.std.specs.Str.Parse.{AllDigits, digits_value}
use Rattle.std.proofs.lemmas.Bool.{and_parts}
use Rattle.std.proofs.lemmas.Bool.Decides.{nat_tests}
use Rattle.std.proofs.lemmas.Int.Digits.{digits_more, digits_value_more}
use Rattle.std.proofs.lemmas.List.{length-take, take-take}
use Rattle.std.proofs.lemmas.List.Sums.{prefix_len-le-length}
use Rattle.std.proofs.lemmas.Str.{digit_value_digit}
use Rattle.std.proofs.lemmas.Str.Parse.{IsNumeralModel, digits_value_short, numerals_by_value, tells_digits}
use Rattle.mm_types.specs.Integers.{integer, is_decimal, natural_number}
use Rattle.mm_types.proofs.IntegerLemmas.{digits_model}
use Rattle.script_lines.specs.Words.{is_space}
use Rattle.script_lines.proofs.WordLemmas.{first_space}

-- ---- digits, one after another

all_digits_model : IsNumeralModel (AllDigits 10) (digits_value 10)
all_digits_model = numerals_by_value _ tells_digits

-- fewer than nine digits have a value below 10^8
pub digits_low : (bs : List ℕ) (i : ℕ) → i < 9 → AllDigits 10 (take i bs) → digits_value 10 (take i bs) < 100000000
digits_low bs i few all = digits_value_short all_digits_model (take i bs) 8 all (omega (arith, length-take i bs))

pub digit_is : (c : ℕ) → is_ascii_digit c ≡ true → (48 ≤ c) × (c ≤ 57)
digit_is c h = grind (arith, nat_tests)

-- one more digit is read
pub digit_read : (bs : List ℕ) (i n d : ℕ) → i < length bs → is_ascii_digit (get_or bs i 0) ≡ true → d + 48 ≡ get_or bs i 0 → AllDigits 10 (take i bs)
    → n ≡ digits_value 10 (take i bs) → AllDigits 10 (take (i + 1) bs) × (n * 10 + d ≡ digits_value 10 (take (i + 1) bs))
digit_read bs i n d within digit is all value =
    let range = digit_is (get_or bs i 0) digit in
    let v = digit_value_digit (get_or bs i 0) range in
    (digits_more 10 bs i within all (omega arith), omega (arith, digits_value_more 10 bs i within))

-- ---- the number at the front

-- the bytes at the front that pass a test pass it
pub all_in_front : (p : ℕ → Bool) (xs : List ℕ) → list_all p (take (prefix_len p xs) xs) ≡ true
all_in_front p [] = refl
all_in_front p (x ∷ xs) = at (p x) refl (all_in_front p xs)
  where
    at : (b : Bool) → p x ≡ b → list_all p (take (prefix_len p xs) xs) ≡ true → list_all p (take (cond b (1 + prefix_len p xs) 0) (x ∷ xs)) ≡ true
    at true e h = let f : 1 + prefix_len p xs ≡ suc (prefix_len p xs) = omega arith in rw (f, e) h
    at false e h = refl

decimal_of : (w : List ℕ) → 0 < length w → list_all is_ascii_digit w ≡ true → (1 < length w → get_or w 0 0 ≢ 48) → is_decimal w ≡ true
decimal_of [] some all first = absurd (omega arith)
decimal_of (c ∷ []) some all first = grind (arith, nat_tests)
decimal_of (c ∷ d ∷ cs) some all first = let other : c ≢ 48 = first (omega arith) in grind (arith, nat_tests)

natural_is : (w : List ℕ) → is_decimal w ≡ true → digits_value 10 w < 2 ^ 32 → natural_number w ≡ Some (digits_value 10 w)
natural_is w decimal low = let l : nat_lt (digits_value 10 w) (2 ^ 32) ≡ true = grind (arith, nat_tests) in rw (decimal, l) refl

-- the first byte of a prefix is the first byte of the whole
pub front_first : (bytes : List ℕ) (len : ℕ) → 0 < len → get_or (take len bytes) 0 0 ≡ get_or bytes 0 0
front_first [] zero some = refl
front_first [] (suc k) some = refl
front_first (c ∷ cs) zero some = absurd (omega arith)
front_first (c ∷ cs) (suc k) some = refl

-- the digits at the front are a number
pub number_in_front : (bytes : List ℕ) (n len : ℕ) → len ≡ prefix_len is_ascii_digit (take 9 bytes) → n ≡ digits_value 10 (take len (take 9 bytes)) → 0 < len
    → (1 < len → get_or bytes 0 0 ≢ 48) → (natural_number (take len bytes) ≡ Some n) × (len ≤ length bytes)
number_in_front bytes n len is value some first =
    let front : List ℕ = take 9 bytes in
    let short = prefix_len-le-length is_ascii_digit front in
    let front_len = length-take 9 bytes in
    let same : take len front ≡ take len bytes = take-take len 9 bytes (omega arith) in
    let within : len ≤ length bytes = omega arith in
    let w : List ℕ = take len bytes in
    let w_len : length w ≡ len = omega (arith, length-take len bytes) in
    let all : list_all is_ascii_digit w ≡ true = ap (list_all is_ascii_digit) (sym same) ∙ (ap (λ k. list_all is_ascii_digit (take k front)) is ∙ all_in_front is_ascii_digit front) in
    let decimal = decimal_of w (omega arith) all (λ more. λ e. first (omega arith) (sym (front_first bytes len some) ∙ e)) in
    let low : digits_value 10 w < 10 ^ 9 = digits_value_short digits_model w 9 all (omega arith) in
    (natural_is w decimal (omega arith) ∙ ap Some (ap (digits_value 10) (sym same) ∙ sym value), within)

-- ---- the number before the first space

pub digit_no_space : (c : ℕ) → is_ascii_digit c ≡ true → is_space c ≡ false
digit_no_space c h = grind (arith, nat_tests)

natural_parts : (b c : Bool) (v n : ℕ) → cond (b && c) (Some v) None ≡ Some n → (b ≡ true) × (c ≡ true) × (v ≡ n)
natural_parts true true v n h = (refl, refl, cc)
natural_parts true false v n h = absurd (true≢false (ap is_some (sym h)))
natural_parts false c v n h = absurd (true≢false (ap is_some (sym h)))

-- digits that write a number are digits
pub natural_digits : (w : List ℕ) (n : ℕ) → natural_number w ≡ Some n → list_all is_ascii_digit w ≡ true
natural_digits w n h = (and_parts _ _ (natural_parts (is_decimal w) (nat_lt (digits_value 10 w) (2 ^ 32)) _ n h).0).0

-- a number, and then a space
pub number_before : (text : List ℕ) (n len : ℕ) → natural_number (take len text) ≡ Some n → len < length text → get_or text len 0 ≡ 32
    → (Some n ≡ natural_number (before_first is_space text)) × (drop (len + 1) text ≡ after_first is_space text)
number_before text n len number within space =
    let at : position_or_len is_space text ≡ len =
    first_space is_ascii_digit digit_no_space text len (natural_digits (take len text) n number) (omega arith) (λ l. space) in
    (rw at (sym number), ap (λ k. drop (k + 1) text) (sym at))

-- ---- integers

-- a number below 2^32 fits in 64 bits
pub natural_is_integer : (w : List ℕ) (n : ℕ) → slice_index w 0 ≢ 45 → natural_number w ≡ Some n → integer w ≡ Some (pos n)
natural_is_integer w n minus h =
    let parts = natural_parts (is_decimal w) (nat_lt (digits_value 10 w) (2 ^ 32)) _ n h in
    let other : (slice_index w 0 == 45) ≡ false = grind (arith, nat_tests) in
    let low : nat_lt (digits_value 10 w) (2 ^ 63) ≡ true = grind (arith, nat_tests) in
    rw (other, parts.0, low) (ap (λ v. Some (pos v)) parts.2)

single : (b : Bool) (c : ℕ) → (c == 48) ≡ b → digits_value 10 (c ∷ []) ≢ 0 → b ≡ false
single true c e some = let is : c ≡ 48 = grind (arith, nat_tests) in absurd (some (rw is refl))
single false c e some = refl
