use Rattle.std.proofs.Common.{◌<◌, ◌/◌, ◌%◌, arith}
use Rattle.std.proofs.lemmas.Result.{on_ok_weaker}
use Rattle.script_output.proofs.OutputLemmas.{decimal_split}
use Rattle.script_output.proofs.output.Output.tens.Goals as goal

pub returns : goal.returns
returns c = record { ok = on_ok_weaker c.digit-3.result (λ h. decimal_split _ _ _ c.args.n (omega arith) (omega arith) c.in_ok-digit.ensures.ok h) c.digit-3.ensures.ok }
