use Rattle.std.proofs.Common.{◌≡◌, ◌∙◌, ap, false, None, refl, rules, Some, subst, sym, true}
use Rattle.std.specs.List.{list_any}
use Rattle.links.specs.Holders.{above}
use Rattle.links.specs.Links.{Links}
use Rattle.mm_types.specs.Same.{same_node}
use Rattle.mm_types.specs.declared.numbers.Node.TheVariants as node
use Rattle.containment.proofs.AboveLemmas.{fewer_above, is_above-here, is_above-on, is_above-root, parent}
use Rattle.containment.proofs.BelowLemmas.{one-seen, parts-wait}
use Rattle.containment.proofs.below.is_object_above.Goals as goal

pub loop-next-init : goal.loop-next-init
loop-next-init g c =
    let added : c.add_contents.result ≡ true = search rules in
    (refl, parts-wait c.args.model.now c.lemma_is_legal.ensures _ _ c.args.object c.args.node c.new-waiting.ensures c.requires.apart (c.add_contents.ensures added))

pub returns-then-eq : goal.returns-then-eq
returns-then-eq g c =
    let links = c.args.model.now.links in
    let legal = c.lemma_is_legal.ensures.links in
    let up = subst (λ (s : Links). Some c.in-Some.next ≡ parent s c.loop-next.at) c.store-in-loop-next.ensures.links c.in-Some.ensures in
    let same : same_node (node.Object c.args.object) c.in-Some.next ≡ true = search rules in
    sym (sym c.loop-next.invariant.0 ∙ is_above-here links c.loop-next.at c.in-Some.next (node.Object c.args.object) legal.set legal.forest up same)

pub returns-then-not-add_contents-2 : goal.returns-then-not-add_contents-2
returns-then-not-add_contents-2 g c =
    let links = c.args.model.now.links in
    let legal = c.lemma_is_legal.ensures.links in
    let up = subst (λ (s : Links). Some c.in-Some.next ≡ parent s c.loop-next.at) c.store-in-loop-next.ensures.links c.in-Some.ensures in
    let other : same_node (node.Object c.args.object) c.in-Some.next ≡ false = search rules in
    c.is_under-then-not-add_contents-2.ensures
    ∙ ap (λ (s : Links). list_any (same_node (node.Object c.args.object)) (above s c.in-Some.next)) c.store-then-not-add_contents-2.ensures.links
    ∙ is_above-on links c.loop-next.at c.in-Some.next (node.Object c.args.object) legal.set legal.forest up other
    ∙ c.loop-next.invariant.0

pub loop-next-smaller : goal.loop-next-smaller
loop-next-smaller g c =
    let links = c.args.model.now.links in
    let legal = c.lemma_is_legal.ensures.links in
    let up = subst (λ (s : Links). Some c.in-Some.next ≡ parent s c.loop-next.at) c.store-in-loop-next.ensures.links c.in-Some.ensures in
    fewer_above links c.loop-next.at c.in-Some.next legal.set legal.forest up

pub loop-next-preserved : goal.loop-next-preserved
loop-next-preserved g c =
    let links = c.args.model.now.links in
    let legal = c.lemma_is_legal.ensures.links in
    let up = subst (λ (s : Links). Some c.in-Some.next ≡ parent s c.loop-next.at) c.store-in-loop-next.ensures.links c.in-Some.ensures in
    let other : same_node (node.Object c.args.object) c.in-Some.next ≡ false = search rules in
    let apart : same_node (node.Object (record { 0 = c.in-Some-pop.no })) c.args.node ≡ false = search rules in
    let added : c.add_contents-in-Some.result ≡ true = search rules in (
      is_above-on links c.loop-next.at c.in-Some.next (node.Object c.args.object) legal.set legal.forest up other ∙ c.loop-next.invariant.0,
      one-seen c.args.model.now c.lemma_is_legal.ensures _ _ _ c.in-Some-pop.no c.args.node _ c.in-Some-pop.ensures.items apart (c.add_contents-in-Some.ensures added) c.loop-next.invariant.1,
    )

pub returns : goal.returns
returns g c =
    let legal = c.lemma_is_legal.ensures.links in
    let top = subst (λ (s : Links). None ≡ parent s c.loop-next.at) c.store-in-loop-next.ensures.links c.in_default.ensures in
    sym (sym c.loop-next.invariant.0 ∙ is_above-root c.args.model.now.links c.loop-next.at (node.Object c.args.object) legal.set legal.forest top)
