use Rattle.std.proofs.Common.{◌≡◌, take}
use Rattle.std.specs.Str.Parse.{AllDigits, digits_value}
use Rattle.borrowed_json.proofs.number.few_digits.Given as goal

abbrev pub invariant-bytes : goal.invariant-bytes
invariant-bytes l = record { digits : AllDigits 10 (take l.byte-index l.bytes); value : l.number ≡ digits_value 10 (take l.byte-index l.bytes) }
