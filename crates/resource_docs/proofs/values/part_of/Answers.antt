use Rattle.std.proofs.Common.{◌∙◌, ap, sym}
use Rattle.std.specs.Prelude.{option_map}
use Rattle.web_uris.specs.Paths.{with_step}
use Rattle.doc_parts.specs.Parts.{number_of}
use Rattle.resource_docs.specs.Values.{object_of}
use Rattle.resource_docs.proofs.ReadingLemmas.{step_is}
use Rattle.resource_docs.proofs.values.part_of.Goals as goal

pub returns-then-is_single-clause-value : goal.returns-then-is_single-clause-value
returns-then-is_single-clause-value c = λ ps path known first.
    c.part_at.ensures.value ps path known first
    ∙ ap (λ s. option_map object_of (number_of ps (with_step path s)))
    (step_is c.args.source.now.meta.now c.args.feature c.args.position c.feature_name.result.now _ c.feature_name.ensures (sym c.if-is_single.true ∙ c.is_single.ensures))

pub returns-clause-value : goal.returns-clause-value
returns-clause-value c = λ ps path known first.
    c.part_at-2.ensures.value ps path known first
    ∙ ap (λ s. option_map object_of (number_of ps (with_step path s)))
    (step_is c.args.source.now.meta.now c.args.feature c.args.position c.feature_name-2.result.now _ c.feature_name-2.ensures (sym c.if-is_single.false ∙ c.is_single.ensures))
