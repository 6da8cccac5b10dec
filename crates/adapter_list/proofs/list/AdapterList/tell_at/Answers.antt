use Rattle.std.proofs.Common.{rules, ◌<◌, ◌∙◌, ap, arith, length, refl, subst, sym, slice_index}
use Rattle.std.proofs.lemmas.List.{length-map}
use Rattle.adapter_list.specs.Attached.{listed_adapters, places_of}
use Rattle.adapter_list.proofs.ListedLemmas.{listed_adapters-set, places_of-set, numbers_of-set, AreReady-set, slice_index-map}
use Rattle.notice_chain.specs.Listed.{HasDistinctTargets, HaveTargets, targets_len}
use Rattle.adapter_list.specs.Targets.{entries, targets_at}
use Rattle.adapter_list.proofs.SomeLemmas.{some-tell_at}
use Rattle.adapter_list.proofs.TargetLemmas.{entries-tell_at, once-tell_at, targets_at-here, targets_len-tell_at}
use Rattle.adapter_list.proofs.list.AdapterList.tell_at.Goals as goal

pub invariant_of-self : goal.invariant_of-self
invariant_of-self g c =
    let within : c.args.ordinal < length c.self.inside.attached.items = rw (length-map) at (rw (← c.self.view_is) at c.requires.within) in
    let spare : targets_at (listed_adapters g.A.Adapter.heard c.self.inside.attached.items) c.args.ordinal < slice_index (places_of g.A.Adapter.places c.self.inside.attached.items) c.args.ordinal = rw (← c.self.view_is) at c.requires.spare in
    let at = slice_index-map (λ a. g.A.Adapter.places a.adapter) c.self.inside.attached.items c.args.ordinal _ within c.index_mut-one.ensures.value in
    let many = targets_at-here g.A.Adapter.heard c.self.inside.attached.items c.args.ordinal _ within c.index_mut-one.ensures.value in
    let items = c.self.inside.attached.items in
    let heard = listed_adapters-set g.A.Adapter.heard items c.args.ordinal c.args.notice _ _ c.index_mut-one.ensures.value (rw c.notify_changed.ensures.view) in
    record {
      sound = record {
        few = c.self.invariant.sound.few;
        counted = c.self.invariant.sound.counted ∙ sym (ap targets_len heard ∙ targets_len-tell_at (listed_adapters g.A.Adapter.heard items) c.args.ordinal c.args.notice);
        ready = AreReady-set g.A.Adapter.heard g.A.Adapter.places c.self.inside.attached.items c.args.ordinal _ c.self.invariant.sound.ready (record { reserve = omega (arith, spare, many, at, c.notify_changed.ensures.one_place_used); countable = c.notify_changed.ensures.countable });
        numbered = c.self.invariant.sound.numbered ∙ sym (numbers_of-set c.self.inside.attached.items c.args.ordinal _ _ c.index_mut-one.ensures.value refl);
        distinct = c.self.invariant.sound.distinct;
        once = subst HasDistinctTargets (sym heard) (once-tell_at (listed_adapters g.A.Adapter.heard items) c.args.ordinal c.args.notice c.self.invariant.sound.once);
        tied = λ x. c.self.invariant.sound.tied x ∙ sym (ap (entries x) heard ∙ entries-tell_at x (listed_adapters g.A.Adapter.heard items) c.args.ordinal c.args.notice);
        none_empty = c.self.invariant.sound.none_empty;
        marked = c.self.invariant.sound.marked;
        unused = c.self.invariant.sound.unused;
        releasable = search rules;
      };
      some = subst HaveTargets (sym heard) (some-tell_at (listed_adapters g.A.Adapter.heard items) c.args.ordinal c.args.notice c.self.invariant.some);
    }

pub returns-clause-heard : goal.returns-clause-heard
returns-clause-heard g c = rw (← c.self.view_is) (listed_adapters-set g.A.Adapter.heard c.self.inside.attached.items _ _ _ _ c.index_mut-one.ensures.value (rw c.notify_changed.ensures.view))

pub returns-clause-places : goal.returns-clause-places
returns-clause-places g c = rw (← c.self.view_is) (places_of-set g.A.Adapter.places c.self.inside.attached.items _ _ _ c.index_mut-one.ensures.value c.notify_changed.ensures.one_place_used)
