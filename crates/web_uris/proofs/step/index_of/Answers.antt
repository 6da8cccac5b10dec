use Rattle.std.proofs.Common.{◌∙◌}
use Rattle.web_uris.proofs.ReadLemmas.{natural_number-short}
use Rattle.web_uris.proofs.step.index_of.Goals as goal

pub returns : goal.returns
returns c = c.natural_of.ensures ∙ natural_number-short c.args.digits.now c.if-digits-gt-INDEX_DIGITS.false
