use Rattle.std.proofs.Common.{sym, ◌∙◌}
use Rattle.containment.proofs.AboveLemmas.{fewer_above, root_is, topmost-parent, topmost-root}
use Rattle.containment.proofs.above.root_of.Goals as goal

pub loop-next-smaller : goal.loop-next-smaller
loop-next-smaller g c = fewer_above (g.L.LinkStore.links c.args.store.now) c.loop-next.top c.in-Some.next c.requires.legal c.requires.no_cycle c.in-Some.ensures

pub loop-next-preserved : goal.loop-next-preserved
loop-next-preserved g c = sym (topmost-parent (g.L.LinkStore.links c.args.store.now) c.loop-next.top c.in-Some.next c.requires.legal c.requires.no_cycle c.in-Some.ensures) ∙ c.loop-next.invariant

pub returns : goal.returns
returns g c = root_is (g.L.LinkStore.links c.args.store.now) c.args.node c.loop-next.top (sym (topmost-root (g.L.LinkStore.links c.args.store.now) c.loop-next.top c.requires.legal c.requires.no_cycle c.in_default.ensures) ∙ c.loop-next.invariant)
