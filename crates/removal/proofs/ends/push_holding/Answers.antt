use Rattle.std.proofs.Common.{List, ◌++◌, ap, subst, ◌∙◌}
use Rattle.std.proofs.lemmas.Result.{on_ok_weaker}
use Rattle.mm_types.specs.declared.end.End.{End}
use Rattle.links.specs.Links.{Links}
use Rattle.links.specs.Plans.{AreIncoming}
use Rattle.removal.specs.Ranks.{staying_ends}
use Rattle.removal.proofs.HoldLemmas.{holding-step}
use Rattle.removal.proofs.ends.push_holding.Goals as goal

pub returns : goal.returns
returns g c =
    let x = c.args.object in
    let ds = c.in_ok-held_by.held_by.items in
    let old = c.args.ends.now.items in
    let there = subst (λ (s : Links). AreIncoming s x ds) c.store.ensures.links c.in_ok-held_by.ensures in
    on_ok_weaker c.push_staying.result
    (λ made. holding-step c.args.model.now.links x ds c.args.numbers.now old c.push_staying.new.ends.items there (made ∙ ap (λ (es : List End). old ++ staying_ends c.args.numbers.now es) c.deref.ensures.value))
    c.push_staying.ensures
