use Rattle.std.proofs.Common.{◌∙◌, ◌≡◌, Some, ap, arith, rules, take}
use Rattle.std.proofs.Math.Seq.{take-length}
use Rattle.std.proofs.lemmas.Int.{ints, to_z-of_z}
use Rattle.mm_types.specs.Integers.{natural_number}
use Rattle.script_lines.proofs.NumberLemmas.{natural_is_integer}
use Rattle.script_lines.proofs.numbers.non_negative_of.Goals as goal

pub returns-in-Some : goal.returns-in-Some
returns-in-Some c =
    let word = c.args.word.now in
    let front : natural_number (take c.in-Some.len word) ≡ Some c.in-Some.number = search rules in
    let whole : take c.in-Some.len word ≡ word = ap (λ k. take k word) c.if-len-word.true ∙ take-length word in
    let number : natural_number word ≡ Some c.in-Some.number = rw whole at front in
    let is = natural_is_integer word c.in-Some.number c.requires number in
    grind (arith, ints, to_z-of_z)
