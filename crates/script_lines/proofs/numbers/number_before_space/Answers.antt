use Rattle.std.proofs.Common.{◌∙◌, ◌<◌, arith, ap, length}
use Rattle.std.proofs.lemmas.Str.{IsCharBoundary-after_ascii}
use Rattle.script_lines.proofs.NumberLemmas.{number_before}
use Rattle.script_lines.proofs.numbers.number_before_space.Goals as goal

pub range_from-rest-requires : goal.range_from-rest-requires
range_from-rest-requires c =
    let same = c.as_bytes-bytes.ensures.value in
    let within : c.in-Some.len < length c.args.text.now = omega (arith, ap length same) in
    λ _. IsCharBoundary-after_ascii c.args.text.now c.in-Some.len c.utf8.text within (omega (arith, rw same at c.if-bytes-len-eq-SPACE.true))

pub returns-in-Some-clause-number : goal.returns-in-Some-clause-number
returns-in-Some-clause-number c =
    let same = c.as_bytes-bytes.ensures.value in
    (number_before c.args.text.now c.in-Some.number c.in-Some.len (rw same at c.in-Some.ensures.0) (omega (arith, ap length same)) (rw same at c.if-bytes-len-eq-SPACE.true)).0

pub returns-in-Some-clause-rest : goal.returns-in-Some-clause-rest
returns-in-Some-clause-rest c =
    let same = c.as_bytes-bytes.ensures.value in
    c.range_from-rest.ensures.value ∙ (number_before c.args.text.now c.in-Some.number c.in-Some.len (rw same at c.in-Some.ensures.0) (omega (arith, ap length same))
    (rw same at c.if-bytes-len-eq-SPACE.true)).1
