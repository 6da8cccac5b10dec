use Rattle.std.proofs.Common.{◌<◌, ap, sym, subst, ◌∙◌, arith, length, remove, refl, rules, [], ◌∷◌, if◌then◌else◌}
use Rattle.std.proofs.lemmas.List.Elements.{All-set}
use Rattle.mm_types.specs.Same.{same_node}
use Rattle.mm_types.specs.declared.numbers.Node.{Node}
use Rattle.mm_types.specs.declared.numbers.Node.TheVariants as node
use Rattle.notice_chain.specs.Listed.{HasDistinctTargets, HaveTargets, is_target}
use Rattle.notice_chain.specs.Released.{adapters_without_target, removing_notice, told_of_leaving}
use Rattle.notice_chain.specs.View.{hear}
use Rattle.adapter_list.specs.Attached.{listed_adapters, listed_one}
use Rattle.adapter_list.specs.declared.attached.Attached.{Attached}
use Rattle.adapter_list.specs.Targets.{IsOnce, entries_in, is_any}
use Rattle.adapter_list.specs.Detached.{last_told}
use Rattle.adapter_list.proofs.GoingLemmas.{absent, going, listed_adapters-put, no-spot, some-target, standing, told-none, told-one, adapters_without_target-none, once-of}
use Rattle.adapter_list.proofs.ListedLemmas.{AreReady-at, AreReady-set, numbers_of-set}
use Rattle.adapter_list.proofs.MarkLemmas.{mark-removed, mark-room}
use Rattle.adapter_list.proofs.TableLemmas.{is_any-some}
use Rattle.adapter_list.proofs.going.Going.let_go.Goals as goal

pub returns-in_err-ordinal-clause-others : goal.returns-in_err-ordinal-clause-others
returns-in_err-ordinal-clause-others g c = adapters_without_target-none c.args.node c.args.no c.args.self.now (absent c.args.node c.args.no c.args.self.now c.in_err-ordinal.ensures.ordinal)

pub returns-in_err-ordinal-clause-told : goal.returns-in_err-ordinal-clause-told
returns-in_err-ordinal-clause-told g c =
    let rs = c.args.self.now in
    ap (last_told c.args.no) c.from_residual.ensures ∙ told-none [] (is_target c.args.no c.args.node rs) _ (absent c.args.node c.args.no rs c.in_err-ordinal.ensures.ordinal)

pub returns-in_err-index-clause-others : goal.returns-in_err-index-clause-others
returns-in_err-index-clause-others g c =
    let rs = c.args.self.now in
    adapters_without_target-none c.args.node c.args.no rs (no-spot c.self.invariant rs c.self.view_is c.args.node c.args.no c.in_err-index.ensures)

pub returns-in_err-index-clause-told : goal.returns-in_err-index-clause-told
returns-in_err-index-clause-told g c =
    let rs = c.args.self.now in
    ap (last_told c.args.no) c.from_residual-in_err-index.ensures ∙ told-none [] (is_target c.args.no c.args.node rs) _ (no-spot c.self.invariant rs c.self.view_is c.args.node c.args.no c.in_err-index.ensures)

pub set_mark-requires : goal.set_mark-requires
set_mark-requires g c = λ some.
    let es = entries_in c.self.inside.by_target c.args.node in
    let low : c.in_ok-index.index < length es = search rules in
    mark-room c.self.inside.marks.items c.args.node es (λ o e. c.self.invariant.marked o ∙ ap (λ (z : Node). is_any (entries_in c.self.inside.by_target z)) (sym e)) (sym (is_any-some es (omega (arith, low))))

pub last_notice-requires : goal.last_notice-requires
last_notice-requires g c =
    let stands = standing c.self.invariant c.args.self.now c.self.view_is c.args.node c.args.no c.in_ok-ordinal.ordinal c.in_ok-index.index c.in_ok-ordinal.ensures.ordinal c.in_ok-ordinal.ensures.within c.in_ok-index.ensures in
    omega (arith, stands.low, c.self.invariant.few, c.self.invariant.counted)

pub last_notice-requires-2 : goal.last_notice-requires-2
last_notice-requires-2 g c =
    let stands = standing c.self.invariant c.args.self.now c.self.view_is c.args.node c.args.no c.in_ok-ordinal.ordinal c.in_ok-index.index c.in_ok-ordinal.ensures.ordinal c.in_ok-ordinal.ensures.within c.in_ok-index.ensures in
    omega (arith, stands.low, c.self.invariant.few, c.self.invariant.counted)

pub overflow_sub-self : goal.overflow_sub-self
overflow_sub-self g c =
    let stands = standing c.self.invariant c.args.self.now c.self.view_is c.args.node c.args.no c.in_ok-ordinal.ordinal c.in_ok-index.index c.in_ok-ordinal.ensures.ordinal c.in_ok-ordinal.ensures.within c.in_ok-index.ensures in
    omega (arith, stands.low, c.self.invariant.counted)

pub notify_changed-requires : goal.notify_changed-requires
notify_changed-requires g c =
    let rs = c.args.self.now in
    let seen = c.self.view_is in
    let one = c.index_mut-one.result.now in
    let stands = standing c.self.invariant rs seen c.args.node c.args.no c.in_ok-ordinal.ordinal c.in_ok-index.index c.in_ok-ordinal.ensures.ordinal c.in_ok-ordinal.ensures.within c.in_ok-index.ensures in
    let ready = AreReady-at g.A.Adapter.heard g.A.Adapter.places c.self.inside.attached.items c.in_ok-ordinal.ordinal one c.self.invariant.ready stands.within c.index_mut-one.ensures.value in
    let some = some-target c.self.invariant rs seen c.args.node c.args.no c.in_ok-ordinal.ordinal c.in_ok-index.index stands one c.index_mut-one.ensures.value in
    omega (arith, ready.reserve, some)

pub drop_target-requires : goal.drop_target-requires
drop_target-requires g c =
    let rs = c.args.self.now in
    let seen = c.self.view_is in
    let stands = standing c.self.invariant rs seen c.args.node c.args.no c.in_ok-ordinal.ordinal c.in_ok-index.index c.in_ok-ordinal.ensures.ordinal c.in_ok-ordinal.ensures.within c.in_ok-index.ensures in
    once-of g.A.Adapter.heard c.self.inside.attached.items c.in_ok-ordinal.ordinal c.index_mut-one.result.now c.self.invariant.once stands.within c.index_mut-one.ensures.value

pub returns-clause-others : goal.returns-clause-others
returns-clause-others g c =
    let heard = g.A.Adapter.heard in
    let rs = c.args.self.now in
    let seen = c.self.view_is in
    let one = c.index_mut-one.result.now in
    let after : Attached g.row.A.Denot = record { no = one.no; targets = c.drop_target.new.targets; adapter = c.notify_changed.new.self } in
    let stands = standing c.self.invariant rs seen c.args.node c.args.no c.in_ok-ordinal.ordinal c.in_ok-index.index c.in_ok-ordinal.ensures.ordinal c.in_ok-ordinal.ensures.within c.in_ok-index.ensures in
    let goes = going c.self.invariant rs seen c.args.node c.args.no c.in_ok-ordinal.ordinal c.in_ok-index.index stands one c.index_mut-one.ensures.value after refl c.drop_target.ensures (c.notify_changed.ensures.view ∙ ap (hear (heard one.adapter)) c.last_notice.ensures) in
    goes.others ∙ ap (adapters_without_target (c.args.no, c.args.node)) seen

pub returns-clause-told : goal.returns-clause-told
returns-clause-told g c =
    let rs = c.args.self.now in
    let seen = c.self.view_is in
    let items = c.self.inside.attached.items in
    let stands = standing c.self.invariant rs seen c.args.node c.args.no c.in_ok-ordinal.ordinal c.in_ok-index.index c.in_ok-ordinal.ensures.ordinal c.in_ok-ordinal.ensures.within c.in_ok-index.ensures in
    ap (λ n. (c.args.no, n) ∷ []) (c.last_notice-2.ensures ∙ ap (removing_notice c.args.no c.args.node) stands.index_is)
    ∙ told-one [] (is_target c.args.no c.args.node (listed_adapters g.A.Adapter.heard items)) _ stands.there ∙ ap (told_of_leaving (c.args.no, c.args.node)) seen

pub returns-clause-some : goal.returns-clause-some
returns-clause-some g c = λ kept some.
    let heard = g.A.Adapter.heard in
    let items = c.self.inside.attached.items in
    let after : Attached g.row.A.Denot = record { no = c.index_mut-one.result.now.no; targets = c.drop_target.new.targets; adapter = c.notify_changed.new.self } in
    let left : 0 < length c.drop_target.new.targets.items = search rules in
    subst HaveTargets (sym (listed_adapters-put heard items c.in_ok-ordinal.ordinal after)) (All-set (λ r. 0 < length r.targets) (listed_adapters heard items) c.in_ok-ordinal.ordinal (listed_one heard after) left (subst HaveTargets (sym c.self.view_is) some))

pub invariant_of-self : goal.invariant_of-self
invariant_of-self g c =
    let heard = g.A.Adapter.heard in
    let items = c.self.inside.attached.items in
    let rs = c.args.self.now in
    let seen = c.self.view_is in
    let t = c.self.inside.by_target in
    let one = c.index_mut-one.result.now in
    let after : Attached g.row.A.Denot = record { no = one.no; targets = c.drop_target.new.targets; adapter = c.notify_changed.new.self } in
    let stands = standing c.self.invariant rs seen c.args.node c.args.no c.in_ok-ordinal.ordinal c.in_ok-index.index c.in_ok-ordinal.ensures.ordinal c.in_ok-ordinal.ensures.within c.in_ok-index.ensures in
    let goes = going c.self.invariant rs seen c.args.node c.args.no c.in_ok-ordinal.ordinal c.in_ok-index.index stands one c.index_mut-one.ensures.value after refl c.drop_target.ensures (c.notify_changed.ensures.view ∙ ap (hear (heard one.adapter)) c.last_notice.ensures) in
    let ready = AreReady-at heard g.A.Adapter.places items c.in_ok-ordinal.ordinal one c.self.invariant.ready stands.within c.index_mut-one.ensures.value in
    record {
      few = omega (arith, c.self.invariant.few);
      counted = omega (arith, goes.counted, c.self.invariant.counted);
      ready = AreReady-set heard g.A.Adapter.places items c.in_ok-ordinal.ordinal after c.self.invariant.ready (record { reserve = omega (arith, ready.reserve, goes.fewer, c.notify_changed.ensures.one_place_used); countable = c.notify_changed.ensures.countable });
      numbered = c.self.invariant.numbered ∙ sym (numbers_of-set items c.in_ok-ordinal.ordinal one after c.index_mut-one.ensures.value refl);
      distinct = c.self.invariant.distinct;
      once = subst HasDistinctTargets (sym (listed_adapters-put heard items c.in_ok-ordinal.ordinal after)) (All-set IsOnce (listed_adapters heard items) c.in_ok-ordinal.ordinal (listed_one heard after) goes.once c.self.invariant.once);
      tied = λ y. c.remove.ensures.removed y ∙ ap (λ es. if same_node c.args.node y then remove es c.in_ok-index.index else es) (c.self.invariant.tied y) ∙ goes.tied y;
      none_empty = c.remove.ensures.none_empty c.self.invariant.none_empty;
      marked = λ o.
          let y = node.Object o in
          c.set_mark.ensures o
          ∙ mark-removed c.args.node y c.has_any.result _ t c.remove.new.self c.has_any.ensures (c.self.invariant.marked o) (λ other. c.remove.ensures.removed y ∙ ap (λ b. if b then remove (entries_in t y) c.in_ok-index.index else entries_in t y) other);
      unused = refl;
      releasable = omega arith;
    }
