use Rattle.std.proofs.Common.{◌≡◌, ◌∙◌, ◌<◌, ◌≤◌, ◌^◌, ◌-◌, ◌*◌, ◌+◌, ℕ, List, ap, arith, get_or, length, sym, take}
use Rattle.std.specs.Str.Parse.{AllDigits, digits_value}
use Rattle.std.proofs.lemmas.Int.Digits.{digits_more, digits_value_more}
use Rattle.std.proofs.lemmas.List.{length-take-le}
use Rattle.std.proofs.lemmas.Str.Parse.{digits_value_short, numerals_by_value, tells_digits}
use Rattle.borrowed_json.proofs.NumberLemmas.{digit-is}
use Rattle.borrowed_json.proofs.number.few_digits.Goals as goal

few : (bs : List ℕ) (i n : ℕ) → i < length bs → length bs ≤ 18 → AllDigits 10 (take i bs) → n ≡ digits_value 10 (take i bs) → n < 10 ^ 17
few bs i n below short digits value =
    let counted = length-take-le i bs (omega (arith, below)) in
    let bound = digits_value_short (numerals_by_value (AllDigits 10) tells_digits) (take i bs) 17 digits (omega (arith, counted, below, short)) in
    omega (arith, bound, value)

pub overflow_mul-number : goal.overflow_mul-number
overflow_mul-number c =
    let bound = few c.args.bytes.now c.bytes.byte-index c.bytes.number c.bytes-test.true c.if-bytes-gt-FEW.false c.bytes.invariant.digits c.bytes.invariant.value in
    omega (arith, bound)

pub overflow_add-number : goal.overflow_add-number
overflow_add-number c =
    let bound = few c.args.bytes.now c.bytes.byte-index c.bytes.number c.bytes-test.true c.if-bytes-gt-FEW.false c.bytes.invariant.digits c.bytes.invariant.value in
    omega (arith, bound, c.if-byte-gt57.false)

pub bytes-preserved : goal.bytes-preserved
bytes-preserved c =
    let bs = c.args.bytes.now in
    let i = c.bytes.byte-index in
    let d = digit-is (get_or bs i 0) c.if-byte-lt48.false c.if-byte-gt57.false in
    record {
      digits = digits_more 10 bs i c.bytes-test.true c.bytes.invariant.digits (omega (arith, d, c.if-byte-gt57.false));
      value = ap (λ (n : ℕ). n * 10 + (get_or bs i 0 - 48)) c.bytes.invariant.value ∙ ap (λ (n : ℕ). digits_value 10 (take i bs) * 10 + n) (sym d) ∙ sym (digits_value_more 10 bs i c.bytes-test.true);
    }
