use Rattle.std.proofs.Common.{◌≡◌, ◌+◌, drop, take}
use Rattle.std.specs.Char.{is_ascii_digit}
use Rattle.std.specs.List.{prefix_len}
use Rattle.std.specs.Str.Parse.{AllDigits, digits_value}
use Rattle.script_lines.proofs.numbers.digits_of.Given as goal

abbrev pub invariant-bytes : goal.invariant-bytes
invariant-bytes l =
    AllDigits 10 (take l.i l.bytes)
    × (l.number ≡ digits_value 10 (take l.i l.bytes))
    × (l.i + prefix_len is_ascii_digit (drop l.i l.bytes) ≡ prefix_len is_ascii_digit l.bytes)
