use Rattle.script_lines.proofs.LineLemmas.{newline_at, no_newline}
use Rattle.script_lines.proofs.lines.line_len_of.Goals as goal

pub returns-in-Some-clause-value : goal.returns-in-Some-clause-value
returns-in-Some-clause-value c = newline_at c.args.bytes.now _ c.in-Some.ensures.0 c.in-Some.ensures.1

pub returns-in-None-clause-value : goal.returns-in-None-clause-value
returns-in-None-clause-value c = no_newline c.args.bytes.now c.in-None.ensures
