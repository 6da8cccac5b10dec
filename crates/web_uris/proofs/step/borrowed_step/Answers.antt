use Rattle.std.proofs.Common.{◌∙◌, ◌∷◌, None, Some, ap, lit<, sym}
use Rattle.std.proofs.lemmas.Str.Pattern.{strip_prefix_char}
use Rattle.web_uris.specs.Paths.{step_of}
use Rattle.web_uris.proofs.ReadLemmas.{no_step}
use Rattle.web_uris.proofs.step.borrowed_step.Goals as goal

pub returns-in-None : goal.returns-in-None
returns-in-None c = sym (no_step c.args.segment.now (strip_prefix_char 64 c.args.segment.now None c.in-None.ensures.cases (lit< tt)))

pub returns-in-Some : goal.returns-in-Some
returns-in-Some c = c.parts_of.ensures ∙ ap step_of {x = 64 ∷ c.in-Some.text.now} {y = c.args.segment.now} (sym (strip_prefix_char 64 c.args.segment.now (Some c.in-Some.text) c.in-Some.ensures.cases (lit< tt)))
