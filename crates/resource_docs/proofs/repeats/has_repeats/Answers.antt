use Rattle.std.proofs.Common.{◌∙◌, ap, sym}
use Rattle.std.specs.List.{list_any}
use Rattle.resource_docs.specs.Causes.{has_repeat}
use Rattle.resource_docs.proofs.AnyLemmas.{any-numbered}
use Rattle.resource_docs.proofs.ObjectLemmas.{if_ok}
use Rattle.resource_docs.proofs.repeats.has_repeats.Goals as goal

pub returns : goal.returns
returns c =
    if_ok _ _ c.is_any_repeated.result
    (λ b said.
    said
    ∙ ap (list_any (λ o. list_any (has_repeat c.args.meta.now) o.contents)) c.as_slice.ensures
    ∙ sym (any-numbered (λ o. list_any (has_repeat c.args.meta.now) o.contents) 0 c.args.doc.now.objects))
    c.is_any_repeated.ensures
