use Rattle.std.proofs.Common.{rules, ◌<◌, ◌∙◌, ap, arith, length, refl, subst, sym}
use Rattle.std.proofs.lemmas.List.{length-map}
use Rattle.adapter_list.proofs.ListedLemmas.{AreReady-at, AreReady-set, places_of-grow, slice_index-map_set, numbers_of-set, listed_adapters-set_same, slice_index-told}
use Rattle.notice_chain.specs.Listed.{HasDistinctTargets, HaveTargets, targets_len}
use Rattle.adapter_list.specs.Targets.{AreTied}
use Rattle.adapter_list.proofs.list.AdapterList.reserve_at.Goals as goal

pub invariant_of-self : goal.invariant_of-self
invariant_of-self g c =
    let items = c.self.inside.attached.items in
    let within : c.args.ordinal < length items = rw (length-map) at (rw (← c.self.view_is) at c.requires.within) in
    let one = AreReady-at g.A.Adapter.heard g.A.Adapter.places items _ _ c.self.invariant.sound.ready within c.index_mut-one.ensures.value in
    let more = c.reserve.ensures.no_fewer in
    let same = listed_adapters-set_same g.A.Adapter.heard items c.args.ordinal _ _ c.index_mut-one.ensures.value (rw c.reserve.ensures.same_view) in
    record {
      sound = record {
        few = c.self.invariant.sound.few;
        counted = c.self.invariant.sound.counted ∙ ap targets_len (sym same);
        ready = AreReady-set g.A.Adapter.heard g.A.Adapter.places items _ _ c.self.invariant.sound.ready (record { reserve = omega (arith, one.reserve, more); countable = c.reserve.ensures.countable });
        numbered = c.self.invariant.sound.numbered ∙ sym (numbers_of-set items c.args.ordinal _ _ c.index_mut-one.ensures.value refl);
        distinct = c.self.invariant.sound.distinct;
        once = subst HasDistinctTargets (sym same) c.self.invariant.sound.once;
        tied = subst (AreTied c.self.inside.by_target) (sym same) c.self.invariant.sound.tied;
        none_empty = c.self.invariant.sound.none_empty;
        marked = c.self.invariant.sound.marked;
        unused = c.self.invariant.sound.unused;
        releasable = search rules;
      };
      some = subst HaveTargets (sym same) c.self.invariant.some;
    }

pub returns-clause-kept : goal.returns-clause-kept
returns-clause-kept g c = rw (← c.self.view_is) (listed_adapters-set_same g.A.Adapter.heard c.self.inside.attached.items _ _ _ c.index_mut-one.ensures.value (rw c.reserve.ensures.same_view))

pub returns-clause-ok : goal.returns-clause-ok
returns-clause-ok g c =
    let within : c.args.ordinal < length c.self.inside.attached.items = rw (length-map) at (rw (← c.self.view_is) at c.requires.within) in
    rw (slice_index-map_set (λ a. g.A.Adapter.places a.adapter) c.self.inside.attached.items c.args.ordinal _ within) c.reserve.ensures.ok

pub returns-clause-full : goal.returns-clause-full
returns-clause-full g c =
    let within : c.args.ordinal < length c.self.inside.attached.items = rw (length-map) at (rw (← c.self.view_is) at c.requires.within) in
    rw (← c.self.view_is, slice_index-told g.A.Adapter.heard c.self.inside.attached.items c.args.ordinal _ within c.index_mut-one.ensures.value) c.reserve.ensures.full

pub returns-clause-no_fewer : goal.returns-clause-no_fewer
returns-clause-no_fewer g c = rw (← c.self.view_is) (places_of-grow g.A.Adapter.places c.self.inside.attached.items _ _ _ c.index_mut-one.ensures.value c.reserve.ensures.no_fewer)
