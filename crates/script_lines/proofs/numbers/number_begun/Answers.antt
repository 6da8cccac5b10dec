use Rattle.std.proofs.Common.{◌≡◌, ◌≢◌, ◌<◌, arith, get_or, take}
use Rattle.std.specs.Char.{is_ascii_digit}
use Rattle.std.specs.List.{prefix_len}
use Rattle.std.specs.Str.Parse.{digits_value}
use Rattle.script_lines.proofs.NumberLemmas.{number_in_front}
use Rattle.script_lines.proofs.numbers.number_begun.Goals as goal
use Rattle.script_lines.proofs.numbers.number_begun.Goals.{else-len-gt1-via-then-len-gt1+else-bytes-eq48, else-len-gt1-via-else-len-gt1}

pub returns : goal.returns
returns c =
    let bytes = c.args.bytes.now in
    let len = c.digits_of-number.result.1 in
    let is : len ≡ prefix_len is_ascii_digit (take 9 bytes) = cc in
    let value : c.digits_of-number.result.0 ≡ digits_value 10 (take len (take 9 bytes)) = cc in
    let first : 1 < len → get_or bytes 0 0 ≢ 48 = elim c.else-len-gt1.branch [
      | else-len-gt1-via-then-len-gt1+else-bytes-eq48 w ↦ λ more. w.if-bytes-eq48.false
      | else-len-gt1-via-else-len-gt1 w ↦ λ more. absurd (omega arith)
    ] in
    number_in_front bytes _ len is value (omega arith) first
