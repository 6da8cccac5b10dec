use Rattle.std.proofs.Common.{◌≡◌, ◌∙◌, ◌++◌, ap, sym}
use Rattle.std.specs.Prelude.{OnOk}
use Rattle.std.proofs.lemmas.Fmt.{decimal_digit}
use Rattle.std.proofs.lemmas.Result.{on_ok_weaker}
use Rattle.script_output.proofs.output.Output.digit.Goals as goal

pub returns : goal.returns
returns c = record { ok = on_ok_weaker c.byte.result (λ h. h ∙ ap (λ x. c.args.self.now ++ x) (sym (decimal_digit c.args.n c.requires))) c.byte.ensures.ok }
