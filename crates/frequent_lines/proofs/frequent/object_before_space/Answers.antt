use Rattle.std.proofs.Common.{◌≡◌, ◌<◌, None, get_or, length, rules}
use Rattle.frequent_lines.proofs.FrequentLemmas.{object_before}
use Rattle.frequent_lines.proofs.frequent.object_before_space.Goals as goal

pub returns-in_err-number-clause-object : goal.returns-in_err-number-clause-object
returns-in_err-number-clause-object c =
    let text = c.args.text.now in
    let some : 0 < length text = search rules in
    let mark : get_or text 0 0 ≡ 35 = cc in
    rw c.from_residual.ensures (object_before text c.after_byte.result.now None some mark c.after_byte.ensures c.in_err-number.ensures.number)

pub returns-clause-object : goal.returns-clause-object
returns-clause-object c =
    let text = c.args.text.now in
    let some : 0 < length text = search rules in
    let mark : get_or text 0 0 ≡ 35 = cc in
    object_before text c.after_byte.result.now _ some mark c.after_byte.ensures c.in_ok-number.ensures.number
