use Rattle.std.proofs.Common.{rules, ◌≡◌, ◌++◌, ℕ, List, [], ap, subst, sym, ◌∙◌, arith, length}
use Rattle.std.proofs.lemmas.List.{append-nil, nil_from_length}
use Rattle.std.proofs.lemmas.Grind.{common_steps}
use Rattle.std.proofs.lemmas.List.Elements.{All-head}
use Rattle.std.specs.Vec.Iter.{into_iter_items}
use Rattle.notice_chain.specs.Listed.{Listed}
use Rattle.notice_chain.specs.Released.{all_released}
use Rattle.adapter_list.specs.Attached.{AreReady, IsReady, listed_adapters, views_of}
use Rattle.adapter_list.specs.declared.attached.Attached.{Attached}
use Rattle.adapter_list.proofs.ListedLemmas.{AreReady-rest}
use Rattle.adapter_list.proofs.ReleaseLemmas.{closed-more}
use Rattle.adapter_list.proofs.list.AdapterList.close.Goals as goal

pub tell_all_last-requires : goal.tell_all_last-requires
tell_all_last-requires g c =
    let heard = g.A.Adapter.heard in
    let places = g.A.Adapter.places in
    let rest = into_iter_items c.next.new.self in
    let ready = subst (λ xs. AreReady heard places xs) c.in-Some.ensures.steps.0 c.loop-one.invariant.ready in
    let one = All-head (λ a. IsReady (heard a.adapter) (length a.targets.items) (places a.adapter)) c.in-Some.one rest ready in
    record { reserve = one.reserve }

pub loop-one-preserved : goal.loop-one-preserved
loop-one-preserved g c =
    let heard = g.A.Adapter.heard in
    record {
      can = tt;
      ends = tt;
      ready = AreReady-rest heard g.A.Adapter.places c.in-Some.one _ _ c.in-Some.ensures.steps.0 c.loop-one.invariant.ready;
      releasable = search rules;
      released = closed-more heard c.loop-one.released.items c.push_reserved.new.self.items c.in-Some.one c.tell_all_last.new.adapter _ (into_iter_items c.next.new.self) _ c.push_reserved.ensures.items
          c.tell_all_last.ensures c.in-Some.ensures.steps.0 c.loop-one.invariant.released;
    }

pub loop-one-init : goal.loop-one-init
loop-one-init g c =
    let all : into_iter_items c.into_iter-one-iterator.result ≡ c.self.inside.attached.items = search rules in
    let unused : length c.self.inside.released.items ≡ 0 = omega (arith, c.self.invariant.sound.unused) in
    let none : c.self.inside.released.items ≡ [] = nil_from_length c.self.inside.released.items unused in
    record {
      can = tt;
      ends = tt;
      ready = rw all c.self.invariant.sound.ready;
      releasable = search rules;
      released = rw (none, all) (ap (λ (v : List Listed × List ℕ). all_released v.0) c.self.view_is);
    }

pub returns : goal.returns
returns g c =
    let heard = g.A.Adapter.heard in
    let none : into_iter_items c.loop-one.one-iterator ≡ [] = grind (arith, common_steps) in
    sym (append-nil (views_of heard c.loop-one.released.items)) ∙ ap (λ (xs : List (Attached g.row.A.Denot)). views_of heard c.loop-one.released.items ++ all_released (listed_adapters heard xs)) (sym none) ∙ c.loop-one.invariant.released
