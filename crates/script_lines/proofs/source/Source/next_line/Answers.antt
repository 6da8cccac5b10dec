use Rattle.std.proofs.Common.{◌<◌, length, rules}
use Rattle.script_lines.proofs.LineLemmas.{cut_first}
use Rattle.script_lines.proofs.source.Source.next_line.Goals as goal

pub returns-else-is_empty : goal.returns-else-is_empty
returns-else-is_empty c =
    let text = c.in-Text.text.now in
    let some : 0 < length text = search rules in
    rw c.in-Text.is (cut_first text _ _ some c.cut_at_newline.ensures.before c.cut_at_newline.ensures.after)
