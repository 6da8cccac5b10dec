use Rattle.std.proofs.Common.{map}
use Rattle.std.proofs.lemmas.List.{length-map}
use Rattle.script_lines.proofs.FormLemmas.{many_words}
use Rattle.script_lines.proofs.parse.form_of.Goals as goal

pub returns-in_default : goal.returns-in_default
returns-in_default c = many_words (map (λ w. w.now) c.args.words.now) (simp length-map c.in_default.len_at_least)
