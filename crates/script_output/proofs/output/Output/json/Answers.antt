use Rattle.std.proofs.Common.{◌∙◌, ◌≡◌, ◌++◌, List, ℕ, false, subst, sym}
use Rattle.std.specs.List.{list_any}
use Rattle.std.specs.Prelude.{OnOk}
use Rattle.json.specs.Run.{is_stop}
use Rattle.script_output.proofs.OutputLemmas.{plain_string}
use Rattle.script_output.proofs.output.Output.json.Goals as goal

-- a text without escapes is printed unchanged between quotation marks
pub returns-else-has_escaped : goal.returns-else-has_escaped
returns-else-has_escaped c =
    let plain = subst (λ (t : List ℕ). list_any is_stop t ≡ false) c.as_bytes.ensures.value (sym c.has_escaped.ensures ∙ c.if-has_escaped.false) in
    record { ok = subst (λ (x : List ℕ). OnOk c.quoted.result (c.quoted.new.self ≡ c.args.self.now ++ x)) (plain_string c.args.text.now plain) c.quoted.ensures.ok }
