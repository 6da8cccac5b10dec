use Rattle.std.proofs.Common.{◌||◌, Bool, true, sym, ap, ◌∙◌}
use Rattle.std.specs.List.{list_any}
use Rattle.containment.proofs.AboveLemmas.{above-parent, above-root, fewer_above}
use Rattle.links.specs.Holders.{above}
use Rattle.mm_types.specs.declared.numbers.Node.{Node}
use Rattle.adapter_list.specs.Targets.{is_attached}
use Rattle.adapter_list.proofs.list.AdapterList.has_deep_above.Goals as goal

pub loop-next-smaller : goal.loop-next-smaller
loop-next-smaller g c = fewer_above (g.L.LinkStore.links c.args.store.now) c.loop-next.at c.in-Some.next c.requires.legal c.requires.no_cycle c.in-Some.ensures

pub returns-then-has_attached : goal.returns-then-has_attached
returns-then-has_attached g c =
    let s = g.L.LinkStore.links c.args.store.now in
    let is_deep : Node → Bool = λ x. list_any (is_attached x true) c.args.self.now.0 in
    sym (ap (λ b. b || list_any is_deep (above s c.in-Some.next)) (sym c.has_attached.ensures ∙ c.if-has_attached.true))
    ∙ ap (list_any is_deep) (sym (above-parent s c.loop-next.at c.in-Some.next c.requires.legal c.requires.no_cycle c.in-Some.ensures))
    ∙ c.loop-next.invariant

pub loop-next-preserved : goal.loop-next-preserved
loop-next-preserved g c =
    let s = g.L.LinkStore.links c.args.store.now in
    let is_deep : Node → Bool = λ x. list_any (is_attached x true) c.args.self.now.0 in
    sym (ap (λ b. b || list_any is_deep (above s c.in-Some.next)) (sym c.has_attached.ensures ∙ c.if-has_attached.false))
    ∙ ap (list_any is_deep) (sym (above-parent s c.loop-next.at c.in-Some.next c.requires.legal c.requires.no_cycle c.in-Some.ensures))
    ∙ c.loop-next.invariant

pub returns : goal.returns
returns g c =
    let s = g.L.LinkStore.links c.args.store.now in
    let is_deep : Node → Bool = λ x. list_any (is_attached x true) c.args.self.now.0 in
    ap (list_any is_deep) (sym (above-root s c.loop-next.at c.requires.legal c.requires.no_cycle c.in_default.ensures)) ∙ c.loop-next.invariant
