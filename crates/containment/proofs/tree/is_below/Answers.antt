use Rattle.std.proofs.Common.{◌≡◌, ◌∙◌, false, is_some, ap, sym, subst}
use Rattle.std.specs.List.{list_any}
use Rattle.mm_types.specs.Same.{same_node}
use Rattle.mm_types.specs.declared.numbers.Node.{Node}
use Rattle.links.specs.Holders.{above}
use Rattle.models.specs.Model.{reading}
use Rattle.containment.specs.Forest.{has_parts}
use Rattle.containment.proofs.AboveLemmas.{is_above-top}
use Rattle.containment.proofs.LeafLemmas.{leaf-above}
use Rattle.containment.proofs.tree.is_below.Goals as goal

pub returns-in-Object : goal.returns-in-Object
returns-in-Object g c =
    let r = reading c.args.model.now in
    let is = c.in-Object.is in
    sym (subst (λ (a : Node). list_any (same_node a) (r.above c.args.node) ≡ false) (sym is)
    (leaf-above c.args.model.now c.lemma_is_legal.ensures _ c.args.node (subst (λ (a : Node). same_node a c.args.node ≡ false) is c.requires.apart) (subst (λ (a : Node). has_parts r a ≡ false) is (sym c.if-not-has_parts.ensures))))

pub returns-then-is_none : goal.returns-then-is_none
returns-then-is_none g c =
    sym (ap (λ s. list_any (same_node c.args.above) (above s c.args.node)) (sym c.store.ensures.links)
    ∙ is_above-top _ c.args.node c.args.above c.store.ensures.legal c.store.ensures.no_cycle (ap is_some (sym c.parent_of.ensures) ∙ c.if-is_none.ensures))
