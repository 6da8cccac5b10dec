use Rattle.std.proofs.Common.{◌∙◌, ap}
use Rattle.std.proofs.lemmas.Result.{on_ok_weaker}
use Rattle.script_output.proofs.OutputLemmas.{one_string}
use Rattle.script_output.proofs.output.Output.escaped.Goals as goal

pub returns : goal.returns
returns c =
    let kept = c.string-result.ensures.room.0 ∙ (c.new-writer.ensures.before ∙ (ap (λ v. v.items) c.replace-bytes.ensures.value ∙ c.self.view_is)) in
    record { ok = on_ok_weaker c.string-result.result (λ h. one_string _ _ _ _ _ _ c.into_inner.ensures.items kept c.new-writer.ensures.tokens h) c.string-result.ensures.ok }
