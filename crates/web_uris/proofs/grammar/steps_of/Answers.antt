use Rattle.std.proofs.Common.{◌∙◌, ap, option_copied, sym}
use Rattle.web_uris.proofs.ReadLemmas.{next_step}
use Rattle.web_uris.proofs.grammar.steps_of.Goals as goal

pub segments-preserved : goal.segments-preserved
segments-preserved c =
    next_step c.segments.steps _ (option_copied c.segments.rest) (option_copied c.first_segment.result.1) _ _ _ _ (ap option_copied c.in-Some.is) c.first_segment.ensures.segments
    (sym c.in_ok-step.ensures ∙ c.in-Some-2.is) c.in_ok-push.ensures.ok c.segments.invariant
