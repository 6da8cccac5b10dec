use Rattle.std.proofs.Common.{◌∙◌, ap, map, sym}
use Rattle.std.proofs.lemmas.Result.{IfOk-weaker}
use Rattle.script_lines.specs.Words.{words}
use Rattle.script_lines.specs.Forms.{line_of}
use Rattle.script_lines.proofs.FormLemmas.{first_words, other_line}
use Rattle.script_lines.proofs.line.text_line_of.Goals as goal

pub returns-in-None : goal.returns-in-None
returns-in-None c =
    let text = c.args.text.now in
    let words_are = ap (map (λ w. w.now)) c.as_slice.ensures.value ∙ c.words_of.ensures in
    IfOk-weaker c.line_of.result _ _ (λ l h. h ∙ (ap line_of words_are ∙ (first_words (words text) ∙ sym (other_line text c.in-None.ensures)))) c.line_of.ensures
