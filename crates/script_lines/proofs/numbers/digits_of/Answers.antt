use Rattle.std.proofs.Common.{◌≡◌, ◌+◌, ◌<◌, arith, get_or, rules, true}
use Rattle.std.specs.Char.{is_ascii_digit}
use Rattle.std.proofs.lemmas.List.Sums.{prefix_len-drop_yes}
use Rattle.script_lines.proofs.NumberLemmas.{digit_is, digit_read, digits_low}
use Rattle.script_lines.proofs.numbers.digits_of.Goals as goal

pub overflow_mul-number : goal.overflow_mul-number
overflow_mul-number c =
    let few : c.bytes.i < 9 = omega arith in
    let low = digits_low c.args.bytes.now c.bytes.i few c.bytes.invariant.0 in
    omega arith

pub overflow_add-number : goal.overflow_add-number
overflow_add-number c =
    let few : c.bytes.i < 9 = omega arith in
    let low = digits_low c.args.bytes.now c.bytes.i few c.bytes.invariant.0 in
    let digit : is_ascii_digit (get_or c.args.bytes.now c.bytes.i 0) ≡ true = search rules in
    let range = digit_is (get_or c.args.bytes.now c.bytes.i 0) digit in
    omega (arith, c.from.ensures)

pub bytes-preserved : goal.bytes-preserved
bytes-preserved c =
    let digit : is_ascii_digit (get_or c.args.bytes.now c.bytes.i 0) ≡ true = search rules in
    let range = digit_is (get_or c.args.bytes.now c.bytes.i 0) digit in
    let is : c.from.result + 48 ≡ get_or c.args.bytes.now c.bytes.i 0 = omega (arith, c.from.ensures) in
    let within : c.bytes.i < _ = c.bytes-test.true in
    let read = digit_read c.args.bytes.now c.bytes.i c.bytes.number c.from.result within digit is c.bytes.invariant.0 c.bytes.invariant.1 in
    (read.0, read.1, omega (arith, prefix_len-drop_yes is_ascii_digit c.args.bytes.now c.bytes.i 0 within digit))
