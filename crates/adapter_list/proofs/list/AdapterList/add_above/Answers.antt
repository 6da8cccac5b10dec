use Rattle.std.proofs.Common.{true}
use Rattle.std.specs.BTreeSet.{contains}
use Rattle.std.specs.Ordering.{nat_cmp}
use Rattle.containment.proofs.AboveLemmas.{above-parent, above-root, fewer_above}
use Rattle.links.specs.Holders.{above}
use Rattle.adapter_list.specs.Targets.{is_attached_at}
use Rattle.adapter_list.proofs.PlaceLemmas.{above-all, above-more}
use Rattle.adapter_list.proofs.list.AdapterList.add_above.Goals as goal

pub loop-next-smaller : goal.loop-next-smaller
loop-next-smaller g c = fewer_above (g.L.LinkStore.links c.args.store.now) c.loop-next.at c.in-Some.next c.requires.legal c.requires.no_cycle c.in-Some.ensures

pub loop-next-preserved : goal.loop-next-preserved
loop-next-preserved g c = λ k.
    let s = g.L.LinkStore.links c.args.store.now in
    above-more (λ x. is_attached_at c.args.self.now.0 x true k) (contains nat_cmp c.loop-next.ordinals k) (contains nat_cmp c.add_attached.new.ordinals k) _ c.in-Some.next (above s c.in-Some.next) (above s c.loop-next.at)
    (above-parent s c.loop-next.at c.in-Some.next c.requires.legal c.requires.no_cycle c.in-Some.ensures) (c.in_ok-add_attached.ensures k) (c.loop-next.invariant k)

pub returns : goal.returns
returns g c = λ k.
    let s = g.L.LinkStore.links c.args.store.now in
    above-all (λ x. is_attached_at c.args.self.now.0 x true k) (contains nat_cmp c.loop-next.ordinals k) _ (above s c.loop-next.at) (above-root s c.loop-next.at c.requires.legal c.requires.no_cycle c.in_default.ensures) (c.loop-next.invariant k)
