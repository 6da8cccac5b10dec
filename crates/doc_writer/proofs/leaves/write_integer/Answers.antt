use Rattle.std.proofs.Common.{ℤ, to_z-of_z, subst}
use Rattle.std.specs.Fmt.{signed_decimal}
use Rattle.json.specs.Token as token
use Rattle.json.specs.Written.{Writes}
use Rattle.doc_writer.proofs.AddedLemmas.{integer-added}
use Rattle.doc_writer.proofs.leaves.write_integer.Goals as goal

pub returns : goal.returns
returns c =
    integer-added c.i64.result c.args.number c.args.out.now c.i64.new.self c.ranges.number
    (subst (λ (z : ℤ). Writes c.i64.result c.args.out.now c.i64.new.self (token.number (signed_decimal z))) (to_z-of_z c.ranges.number) c.i64.ensures)
