use Rattle.std.proofs.Common.{◌≡◌, ◌∙◌, ◌∷◌, ◌++◌, [], ap, append_assoc, to_z-of_z}
use Rattle.std.specs.Fmt.{decimal, signed_decimal}
use Rattle.std.proofs.lemmas.Result.{on_ok_weaker}
use Rattle.itoa.proofs.Decimal.{minus_first}
use Rattle.script_output.proofs.OutputLemmas.{not_minus}
use Rattle.script_output.proofs.output.Output.integer.Goals as goal

pub returns-then-n-ge0 : goal.returns-then-n-ge0
returns-then-n-ge0 c =
    let back = to_z-of_z c.ranges.n in
    let same : decimal c.unsigned_abs.result ≡ signed_decimal c.args.n = rw (c.unsigned_abs.ensures.value, back) (not_minus c.args.n (rw back at c.if-n-ge0.true)) in
    record { ok = on_ok_weaker c.natural.result (λ h. h ∙ ap (λ x. c.args.self.now ++ x) same) c.natural.ensures.ok }

pub returns : goal.returns
returns c =
    let back = to_z-of_z c.ranges.n in
    let same : 45 ∷ decimal c.unsigned_abs-2.result ≡ signed_decimal c.args.n = rw (c.unsigned_abs-2.ensures.value, back) (minus_first c.args.n (rw back at c.if-n-ge0.false)) in
    record {
      ok = on_ok_weaker c.brief.result (λ h. h ∙ ap (λ x. x ++ decimal c.unsigned_abs-2.result) c.in_ok-byte.ensures.ok ∙ append_assoc c.args.self.now (45 ∷ []) (decimal c.unsigned_abs-2.result) ∙ ap (λ x. c.args.self.now ++ x) same) c.brief.ensures.ok;
    }
