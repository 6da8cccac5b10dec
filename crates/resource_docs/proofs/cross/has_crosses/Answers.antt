use Rattle.std.proofs.Common.{◌∙◌, ap, sym}
use Rattle.std.specs.List.{list_any}
use Rattle.resource_docs.specs.Causes.{has_cross}
use Rattle.resource_docs.proofs.AnyLemmas.{any-numbered}
use Rattle.resource_docs.proofs.cross.has_crosses.Goals as goal

pub returns : goal.returns
returns c =
    c.is_any_crossed.ensures
    ∙ ap (list_any (λ o. list_any (has_cross c.args.meta.now) o.contents)) c.as_slice.ensures
    ∙ sym (any-numbered (λ o. list_any (has_cross c.args.meta.now) o.contents) 0 c.args.doc.now.objects)
