use Rattle.std.proofs.Common.{◌∙◌, sym}
use Rattle.mm_load.specs.Layout.{feature}
use Rattle.mm_load.proofs.KindLemmas.{gives_first, gives_second, no_attribute, no_reference}
use Rattle.mm_load.proofs.feature.feature_of.Goals as goal

pub returns-then-is_word : goal.returns-then-is_word
unfolding feature
returns-then-is_word c = gives_first _ _ _ c.attribute_of.ensures (no_reference _ (sym c.is_word.ensures ∙ c.if-is_word.true))

pub returns : goal.returns
unfolding feature
returns c = gives_second _ _ _ (no_attribute _ (sym c.is_word.ensures ∙ c.if-is_word.false)) c.reference_of.ensures
