use Rattle.std.proofs.Common.{◌++◌, List, flat_map, ap, ◌∙◌}
use Rattle.models.specs.Model.{reading}
use Rattle.removal.specs.Ranks.{is_in}
use Rattle.removal.specs.TreeLinkEnds.{node_link_ends, outer_link_ends}
use Rattle.removal.specs.declared.link_end.LinkEnd.{LinkEnd}
use Rattle.removal.proofs.OuterLemmas.{touched-reference}
use Rattle.removal.proofs.PushLemmas.{tree-gone}
use Rattle.removal.proofs.link_ends.tree_link_ends.Goals as goal

pub push_outer-requires : goal.push_outer-requires
push_outer-requires g c =
    record { references = λ k d low. touched-reference (reading c.args.model.now) c.args.removal.now.object c.deref-2.result.now k d (c.deref-2.ensures.value ∙ c.requires.removal.ends) low }

pub returns : goal.returns
returns g c =
    let r = reading c.args.model.now in
    let x = c.args.removal.now in
    c.in_ok-push_outer.ensures
    ∙ ap (λ (ts : List LinkEnd). ts ++ flat_map (outer_link_ends r (is_in x.numbers)) c.deref-2.result.now) (c.in_ok-push_inner.ensures ∙ ap (λ (ts : List LinkEnd). ts ++ flat_map (node_link_ends r (is_in x.numbers)) c.deref.result.now) c.new-link_ends.ensures.items)
    ∙ tree-gone r x.object x.numbers c.deref.result.now c.deref-2.result.now c.requires.removal.numbers (c.deref.ensures.value ∙ c.requires.removal.objects) (c.deref-2.ensures.value ∙ c.requires.removal.ends)
