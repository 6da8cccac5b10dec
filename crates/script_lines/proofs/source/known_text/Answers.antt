use Rattle.script_lines.proofs.FormLemmas.{text_form}
use Rattle.script_lines.proofs.source.known_text.Goals as goal

pub returns-clause-line : goal.returns-clause-line
returns-clause-line c = text_form c.args.text.now c.utf8.text
