use Rattle.std.proofs.Common.{◌∙◌, ap, sym}
use Rattle.std.specs.Prelude.{not}
use Rattle.borrowed_json.specs.View.{view}
use Rattle.mm_types.specs.Same.{is_nil}
use Rattle.resource_docs.proofs.SingleLemmas.{empty_is, single_read}
use Rattle.resource_docs.proofs.objects.is_of_type.Goals as goal

pub returns-then-not-is_reference : goal.returns-then-not-is_reference
returns-then-not-is_reference c = λ b ps path read.
    ap not (c.is_empty.ensures ∙ empty_is c.args.values.now)
    ∙ ap (λ vs. not (is_nil vs)) read
    ∙ single_read c.args.meta.now b ps path c.args.feature (view c.args.content.now) (sym c.is_single.ensures ∙ c.if-is_single.true) (sym c.is_reference.ensures ∙ c.if-not-is_reference.true)
