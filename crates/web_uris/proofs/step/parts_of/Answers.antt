use Rattle.std.proofs.Common.{◌∙◌, ap, lit<, sym}
use Rattle.web_uris.specs.Paths.{is_dot, step_of_parts}
use Rattle.web_uris.proofs.CutLemmas.{split_in_two, split_whole}
use Rattle.web_uris.proofs.ReadLemmas.{one_dot}
use Rattle.web_uris.proofs.step.parts_of.Goals as goal

pub returns-in-Some : goal.returns-in-Some
returns-in-Some c =
    let (before, after, below) = c.in-Some.ensures.byte (lit< tt) (λ w o f. f) in
    c.numbered.ensures ∙ sym (ap step_of_parts (split_in_two is_dot c.args.text.now _ _ before after below) ∙ one_dot c.in-Some.name.now c.in-Some.digits.now)

pub returns-in-None : goal.returns-in-None
returns-in-None c = c.named.ensures ∙ sym (ap step_of_parts (split_whole is_dot c.args.text.now (c.in-None.ensures.byte (lit< tt) (λ w o f. f))))
