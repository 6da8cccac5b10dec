use Rattle.std.proofs.Common.{◌≡◌, IfOk, List, [], option_map, ap, sym, subst, ◌∙◌}
use Rattle.models.specs.Model.{reading}
use Rattle.removal.specs.TreeLinkEnds.{tree_link_ends}
use Rattle.removal.specs.declared.link_end.LinkEnd.{LinkEnd}
use Rattle.handshake.specs.Displaced.{cut_link_ends}
use Rattle.handshake.specs.FeatureChanges.{destroyed_by}
use Rattle.handshake.proofs.RemovalLemmas.{of-destroyed}
use Rattle.handshake.proofs.displaced.cut_link_ends.Goals as goal

pub returns-in-Delete : goal.returns-in-Delete
returns-in-Delete g c =
    let r = reading c.args.model.now in
    let whose = subst (λ x. option_map (λ y. y.object) c.args.removal.now ≡ destroyed_by x) c.in-Delete.is c.requires.removal.whose in
    let is = of-destroyed (tree_link_ends r) [] c.args.removal.now c.in-Delete.field-0 whose ∙ ap (cut_link_ends r) (sym c.in-Delete.is) in
    subst (λ (xs : List LinkEnd). IfOk c.gone_link_ends.result (λ ts. ts.items ≡ xs)) is c.gone_link_ends.ensures
