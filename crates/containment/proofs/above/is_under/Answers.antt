use Rattle.std.proofs.Common.{rules, ◌≡◌, true, false, sym, ◌∙◌}
use Rattle.mm_types.specs.Same.{same_node}
use Rattle.containment.proofs.AboveLemmas.{fewer_above, is_above-here, is_above-on, is_above-root}
use Rattle.containment.proofs.above.is_under.Goals as goal

pub loop-next-smaller : goal.loop-next-smaller
loop-next-smaller g c = fewer_above (g.L.LinkStore.links c.args.store.now) c.loop-next.at c.in-Some.next c.requires.legal c.requires.no_cycle c.in-Some.ensures

pub loop-next-preserved : goal.loop-next-preserved
loop-next-preserved g c =
    let other : same_node c.args.above c.in-Some.next ≡ false = search rules in
    is_above-on (g.L.LinkStore.links c.args.store.now) c.loop-next.at c.in-Some.next c.args.above c.requires.legal c.requires.no_cycle c.in-Some.ensures other ∙ c.loop-next.invariant

pub returns-then-eq : goal.returns-then-eq
returns-then-eq g c =
    let same : same_node c.args.above c.in-Some.next ≡ true = search rules in
    sym (sym c.loop-next.invariant ∙ is_above-here (g.L.LinkStore.links c.args.store.now) c.loop-next.at c.in-Some.next c.args.above c.requires.legal c.requires.no_cycle c.in-Some.ensures same)

pub returns : goal.returns
returns g c = sym (sym c.loop-next.invariant ∙ is_above-root (g.L.LinkStore.links c.args.store.now) c.loop-next.at c.args.above c.requires.legal c.requires.no_cycle c.in_default.ensures)
