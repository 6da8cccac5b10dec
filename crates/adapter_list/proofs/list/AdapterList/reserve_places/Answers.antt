use Rattle.std.proofs.Common.{◌≡◌, ◌+◌, ◌≤◌, ◌^◌, ℕ, List, nat_eq, unwrap_or, get_or, Err, arith, refl, sym, ap, subst, length, ◌∙◌}
use Rattle.std.specs.List.{list_any}
use Rattle.std.specs.List.Sorted.{IsStrictlySortedBy}
use Rattle.std.specs.Ordering.{nat_cmp}
use Rattle.notice_chain.specs.Listed.{Listed}
use Rattle.adapter_list.specs.Counts.{IsFullFor, IsReadyFor, copies_len, is_ordinal_of, told_at_ordinal}
use Rattle.adapter_list.specs.Targets.{targets_at}
use Rattle.adapter_list.proofs.ReserveLemmas.{asked-all, asked-more, asked-none, asked-some, asked-within, copies_len-le, count-is, first-full}
use Rattle.adapter_list.proofs.list.AdapterList.reserve_places.Goals as goal

pub loop-ordinal-init : goal.loop-ordinal-init
loop-ordinal-init g c =
    let places : (k : ℕ) → list_any (nat_eq k) c.deref-ordinal-items.result.now ≡ is_ordinal_of c.args.copies.now k = λ k. ap (list_any (nat_eq k)) c.deref-ordinal-items.ensures.value ∙ c.in-Ok-ordinals_of.ensures.ordinals k in
    record { kept = refl; as_many = refl; no_fewer = λ k. omega arith; asked = asked-none c.args.self.now.0 c.args.self.now.1 c.args.copies.now c.deref-ordinal-items.result.now c.lemma_keeps_rules.ensures.reserve places }

pub reserve_for-requires-clause-within : goal.reserve_for-requires-clause-within
reserve_for-requires-clause-within g c =
    let places : (k : ℕ) → list_any (nat_eq k) c.deref-ordinal-items.result.now ≡ is_ordinal_of c.args.copies.now k = λ k. ap (list_any (nat_eq k)) c.deref-ordinal-items.ensures.value ∙ c.in-Ok-ordinals_of.ensures.ordinals k in
    let within = asked-within c.args.copies.now c.deref-ordinal-items.result.now places c.loop-ordinal.ordinal-index c.loop-ordinal-test.true (length c.args.self.now.1) c.requires.within in
    omega (arith, within, c.loop-ordinal.invariant.as_many)

pub reserve_for-requires-clause-fits : goal.reserve_for-requires-clause-fits
reserve_for-requires-clause-fits g c =
    let x = get_or c.deref-ordinal-items.result.now c.loop-ordinal.ordinal-index 0 in
    let is : c.unwrap_or-count.result ≡ copies_len c.args.copies.now x = c.unwrap_or-count.ensures ∙ ap (λ o. unwrap_or o 0) (c.copied.ensures ∙ c.get.ensures.value) ∙ count-is c.args.copies.now x _ (c.in-Ok.ensures x) in
    omega (arith, is, copies_len-le c.args.copies.now x)

pub returns-in-Err-clause-full : goal.returns-in-Err-clause-full
returns-in-Err-clause-full g c = λ is.
    let rs = c.args.self.now.0 in
    let cs = c.args.copies.now in
    let all = c.deref-ordinal-items.result.now in
    let i = c.loop-ordinal.ordinal-index in
    let x = get_or all i 0 in
    let places : (k : ℕ) → list_any (nat_eq k) all ≡ is_ordinal_of cs k = λ k. ap (list_any (nat_eq k)) c.deref-ordinal-items.ensures.value ∙ c.in-Ok-ordinals_of.ensures.ordinals k in
    let count : c.unwrap_or-count.result ≡ copies_len cs x = c.unwrap_or-count.ensures ∙ ap (λ o. unwrap_or o 0) (c.copied.ensures ∙ c.get.ensures.value) ∙ count-is cs x _ (c.in-Ok.ensures x) in
    let within = asked-within cs all places i c.loop-ordinal-test.true (length c.args.self.now.1) c.requires.within in
    let past : 2 ^ 64 ≤ told_at_ordinal c.loop-ordinal.self.0 x + (c.unwrap_or-count.result + targets_at c.loop-ordinal.self.0 x) = c.in-Err.ensures.full.0 (ap Err is) in
    let here : 2 ^ 64 ≤ told_at_ordinal rs x + (c.unwrap_or-count.result + targets_at rs x) = subst (λ (ss : List Listed). 2 ^ 64 ≤ told_at_ordinal ss x + (c.unwrap_or-count.result + targets_at ss x)) c.loop-ordinal.invariant.kept past in
    let sorted : IsStrictlySortedBy nat_cmp all = subst (IsStrictlySortedBy nat_cmp) (sym c.deref-ordinal-items.ensures.value) c.in-Ok-ordinals_of.ensures.sorted in
    let full : IsFullFor rs cs x = record { within = omega (arith, within, c.lemma_keeps_rules.ensures.places); some = asked-some cs all places i c.loop-ordinal-test.true; full = omega (arith, here, count) } in
    (x, first-full rs c.loop-ordinal.self.1 c.reserve_for.new.self.1 cs all i sorted c.loop-ordinal-test.true c.in-Err.ensures.grown.as_many c.in-Err.ensures.grown.no_fewer c.loop-ordinal.invariant.asked full)

pub loop-ordinal-preserved : goal.loop-ordinal-preserved
loop-ordinal-preserved g c =
    let rs = c.args.self.now.0 in
    let qs = c.reserve_for.new.self.1 in
    let cs = c.args.copies.now in
    let all = c.deref-ordinal-items.result.now in
    let i = c.loop-ordinal.ordinal-index in
    let x = get_or all i 0 in
    let asked = c.in_default-reserve_for.ensures in
    let count : c.unwrap_or-count.result ≡ copies_len cs x = c.unwrap_or-count.ensures ∙ ap (λ o. unwrap_or o 0) (c.copied.ensures ∙ c.get.ensures.value) ∙ count-is cs x _ (c.in-Ok.ensures x) in
    let ready : IsReadyFor rs qs x (copies_len cs x) = subst (IsReadyFor rs qs x) count (subst (λ (ss : List Listed). IsReadyFor ss qs x c.unwrap_or-count.result) c.loop-ordinal.invariant.kept asked.ok) in
    record {
      kept = asked.grown.kept ∙ c.loop-ordinal.invariant.kept;
      as_many = asked.grown.as_many ∙ c.loop-ordinal.invariant.as_many;
      no_fewer = λ k. let more = asked.grown.no_fewer k in let before = c.loop-ordinal.invariant.no_fewer k in omega (arith, more, before);
      asked = asked-more rs c.loop-ordinal.self.1 qs cs all i c.loop-ordinal-test.true asked.grown.as_many asked.grown.no_fewer ready c.loop-ordinal.invariant.asked;
    }

pub returns-clause-ok : goal.returns-clause-ok
returns-clause-ok g c = λ k. asked-all c.args.self.now.0 c.loop-ordinal.self.1 c.args.copies.now c.deref-ordinal-items.result.now c.loop-ordinal.ordinal-index k c.loop-ordinal-test.false c.loop-ordinal.invariant.asked
