use Rattle.std.proofs.Common.{◌∙◌, ◌≡◌, Some, ap, rules, sym, take}
use Rattle.std.proofs.Math.Seq.{take-length}
use Rattle.mm_types.specs.Integers.{natural_number}
use Rattle.script_lines.proofs.numbers.natural_of.Goals as goal

pub returns-in-Some : goal.returns-in-Some
returns-in-Some c =
    let word = c.args.word.now in
    let front : natural_number (take c.in-Some.len word) ≡ Some c.in-Some.number = search rules in
    let whole : take c.in-Some.len word ≡ word = ap (λ k. take k word) c.if-len-word.true ∙ take-length word in
    sym (rw whole at front)
