use Rattle.std.proofs.Common.{◌∙◌, ap, sym}
use Rattle.script_lines.specs.Forms.{text_line}
use Rattle.script_lines.proofs.FormLemmas.{not_text, text_form}
use Rattle.script_lines.proofs.line.text_of_line.Goals as goal

pub returns-in-Err : goal.returns-in-Err
returns-in-Err c = sym (not_text c.args.line.now c.in-Err.ensures.cases.0)

pub returns-in-Ok : goal.returns-in-Ok
returns-in-Ok c = text_form c.args.line.now c.in-Ok.ensures.cases.1 ∙ sym (ap text_line c.in-Ok.ensures.cases.0)
