use Rattle.std.proofs.Common.{get_or, ◌+◌, rules, ◌≡◌, ◌≤◌, ◌<◌, ◌∷◌, [], ◌++◌, ◌∙◌, ap, sym, subst, false, arith, length, insert, length-append, refl, if◌then◌else◌}
use Rattle.std.specs.List.{list_any}
use Rattle.std.specs.Result.{IsOk}
use Rattle.indexmap.specs.IndexSet.{insert_key, spare}
use Rattle.std.proofs.lemmas.List.{map-append}
use Rattle.std.proofs.lemmas.Grind.{common_steps}
use Rattle.mm_types.specs.Same.{same_node}
use Rattle.mm_types.specs.declared.numbers.Node.{Node}
use Rattle.mm_types.specs.declared.numbers.Node.TheVariants as node
use Rattle.mm_types.specs.declared.limits.TheConstants.{TARGETS}
use Rattle.notice_chain.specs.Listed.{HasDistinctTargets, HaveTargets, same_no, targets_len}
use Rattle.notice_chain.specs.declared.target.Target.{Target}
use Rattle.adapter_list.specs.Attached.{listed_adapters, listed_one}
use Rattle.adapter_list.specs.Targets.{entries, entries_in, is_any}
use Rattle.adapter_list.specs.declared.attached.Attached.{Attached}
use Rattle.adapter_list.specs.declared.target_lists.Entry.{Entry}
use Rattle.adapter_list.proofs.AttachLemmas.{first-entry, once-push, targets_len-push, tied-push}
use Rattle.adapter_list.proofs.ListedLemmas.{AreReady-push}
use Rattle.adapter_list.proofs.MarkLemmas.{mark-put}
use Rattle.adapter_list.proofs.NumberLemmas.{allowed_from_none, list_any-numbers, numbers_of-push}
use Rattle.adapter_list.proofs.SomeLemmas.{some-push}
use Rattle.adapter_list.proofs.ReleaseLemmas.{from_err, from_ok}
use Rattle.adapter_list.proofs.list.AdapterList.attach.Goals as goal

pub invariant_of-self-2 : goal.invariant_of-self-2
invariant_of-self-2 g c =
    let heard = g.A.Adapter.heard in
    let items = c.self.inside.attached.items in
    let rs = listed_adapters heard items in
    let keys = c.self.inside.numbers.keys in
    let t : Target = record { node = c.args.target; deep = c.args.deep } in
    let e : Entry = record { no = c.args.no; deep = c.args.deep } in
    let x : Attached g.row.A.Denot = record { no = c.args.no; targets = c.push_back_reserved.new.self; adapter = c.reserve.new.self } in
    let same : c.reserve-3.new.self.items ≡ items = c.reserve-3.ensures.items in
    let pushed : c.push_reserved.new.self.items ≡ items ++ x ∷ [] = c.push_reserved.ensures.items ∙ ap (λ ys. ys ++ x ∷ []) same in
    let only : c.push_back_reserved.new.self.items ≡ t ∷ [] = c.push_back_reserved.ensures.items ∙ ap (λ ts. ts ++ t ∷ []) c.in-Ok.ensures.items in
    let now : listed_adapters heard c.push_reserved.new.self.items ≡ rs ++ listed_one heard x ∷ [] = ap (listed_adapters heard) pushed ∙ map-append (listed_one heard) items (x ∷ []) in
    let ordinal : 1 ≤ g.A.Adapter.places c.reserve.new.self = grind (arith, common_steps) in
    let allowed = allowed_from_none rs c.args.no (rw (← c.self.view_is) at c.in_default.ensures) in
    let few : targets_len rs < TARGETS = allowed.0 in
    let more = targets_len-push rs (listed_one heard x) t only in
    let many : length c.push_reserved.new.self.items ≡ length items + 1 = ap (λ ys. length ys) pushed ∙ length-append items (x ∷ []) in
    let new : list_any (same_no c.args.no) keys ≡ false = list_any-numbers heard items keys c.args.no c.self.invariant.sound.numbered ∙ allowed.1 in
    let room : 1 ≤ spare c.reserve-4.new.self = grind (arith, common_steps) in
    let inserted : c.insert-2.new.self.keys ≡ insert_key same_no keys c.args.no = from_ok _ c.insert-2.result (c.insert-2.ensures.succeeds (omega (arith, room))) c.insert-2.ensures.keys ∙ ap (λ ks. insert_key same_no ks c.args.no) c.reserve-4.ensures.keys in
    let put_ok : IsOk c.insert.result = search rules in
    let put : (y : Node) → entries_in c.insert.new.self y ≡ (if same_node c.args.target y then insert (entries_in c.self.inside.by_target y) (length c.at-last.result.now) e else entries_in c.self.inside.by_target y) = from_ok _ c.insert.result put_ok c.insert.ensures.ok in
    let last : length c.at-last.result.now ≡ length (entries_in c.self.inside.by_target c.args.target) = ap (λ es. length es) c.at-last.ensures in
    let ones : length x.targets.items ≡ 1 = ap (λ ts. length ts) only in
    record {
      sound = record {
        few = omega (arith, few, c.self.invariant.sound.counted);
        counted = ap (λ n. n + 1) c.self.invariant.sound.counted ∙ sym (ap targets_len now ∙ more);
        ready = rw pushed (AreReady-push heard g.A.Adapter.places items x c.self.invariant.sound.ready (record { reserve = omega (arith, ones, ordinal); countable = c.reserve.ensures.countable }));
        numbered = numbers_of-push items c.push_reserved.new.self.items x keys c.insert-2.new.self.keys c.self.invariant.sound.numbered new inserted pushed;
        distinct = c.insert-2.ensures.unique;
        once = subst HasDistinctTargets (sym now) (once-push rs (listed_one heard x) t only c.self.invariant.sound.once);
        tied = λ y. put y ∙ tied-push rs (listed_one heard x) c.args.target t e (entries_in c.self.inside.by_target) (length c.at-last.result.now) y only refl (first-entry c.args.target (listed_one heard x) t only refl) (c.self.invariant.sound.tied y) last ∙ ap (entries y) (sym now);
        none_empty = c.insert.ensures.none_empty c.self.invariant.sound.none_empty;
        marked = λ o.
            let y = node.Object o in
            c.set_mark.ensures o
            ∙ mark-put (same_node c.args.target y) (get_or c.reserve_mark.new.marks.items o.0 false) (entries_in c.self.inside.by_target y) (length c.at-last.result.now) e (c.reserve_mark.ensures.same o.0 ∙ c.self.invariant.sound.marked o)
            ∙ ap is_any (sym (put y));
        unused = search rules;
        releasable = grind (arith, common_steps, many);
      };
      some = subst HaveTargets (sym now) (some-push rs (listed_one heard x) t only c.self.invariant.some);
    }

pub set_mark-requires : goal.set_mark-requires
set_mark-requires g c = λ _. from_ok _ c.reserve_mark.result (search rules) c.reserve_mark.ensures.room

pub invariant_of-self-then-is_err-5 : goal.invariant_of-self-then-is_err-5
invariant_of-self-then-is_err-5 g c =
    let same = c.reserve-3.ensures.items in
    let kept : (y : Node) → entries_in c.insert.new.self y ≡ entries_in c.self.inside.by_target y = from_err _ c.insert.result (search rules) c.insert.ensures.err in
    record {
      sound = record {
        few = c.self.invariant.sound.few;
        counted = rw same c.self.invariant.sound.counted;
        ready = rw same c.self.invariant.sound.ready;
        numbered = rw same (c.reserve-4.ensures.keys ∙ c.self.invariant.sound.numbered);
        distinct = c.reserve-4.ensures.unique;
        once = rw same c.self.invariant.sound.once;
        tied = rw same (λ y. kept y ∙ c.self.invariant.sound.tied y);
        none_empty = c.insert.ensures.none_empty c.self.invariant.sound.none_empty;
        marked = λ o. c.reserve_mark.ensures.same o.0 ∙ c.self.invariant.sound.marked o ∙ ap is_any (sym (kept (node.Object o)));
        unused = search rules;
        releasable = grind (arith, common_steps);
      };
      some = rw same c.self.invariant.some;
    }
