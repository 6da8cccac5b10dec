use Rattle.std.proofs.Common.{◌∙◌, ◌+◌, ap, drop, rules, take}
use Rattle.script_lines.proofs.LineLemmas.{cut_first}
use Rattle.script_lines.proofs.lines.next_line.Goals as goal

pub returns : goal.returns
returns c =
    let bytes = c.args.bytes.now in
    let n = c.line_len_of-n.ensures.value in
    cut_first bytes _ _ (search rules) (ap (λ k. take k bytes) n) (c.after_line.ensures ∙ ap (λ k. drop (k + 1) bytes) n)
