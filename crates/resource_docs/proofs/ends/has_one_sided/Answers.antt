use Rattle.std.proofs.Common.{◌∙◌, ap, subst, sym}
use Rattle.std.specs.List.{list_any}
use Rattle.resource_docs.specs.Ends.{IsEndsOf, any_one_sided_by, asks_back}
use Rattle.resource_docs.proofs.EndLemmas.{none_asked, one_sided_in}
use Rattle.resource_docs.proofs.ends.has_one_sided.Goals as goal

pub returns-then-not-is_any_asked : goal.returns-then-not-is_any_asked
returns-then-not-is_any_asked c =
    sym (none_asked c.args.meta.now c.args.doc.now c.is_any_asked.result (c.is_any_asked.ensures ∙ ap (list_any (λ o. list_any (asks_back c.args.meta.now) o.contents)) c.as_slice.ensures) c.if-not-is_any_asked.true)

pub returns : goal.returns
returns c =
    c.has_one_sided.ensures
    ∙ ap (any_one_sided_by c.args.meta.now c.in_ok-ends.ends) c.as_slice-3.ensures
    ∙ one_sided_in c.args.meta.now c.in_ok-ends.ends c.args.doc.now (subst (IsEndsOf c.in_ok-ends.ends) c.as_slice-2.ensures c.in_ok-ends.ensures)
