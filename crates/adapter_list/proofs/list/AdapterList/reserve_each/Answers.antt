use Rattle.std.proofs.Common.{◌+◌, ◌≤◌, ◌<◌, ◌^◌, ℕ, List, None, Err, get_or, length, arith, refl, sym, subst, ap, ◌∙◌}
use Rattle.notice_chain.specs.Listed.{Listed}
use Rattle.adapter_list.specs.Counts.{IsFullFor, IsReadyFor, copies_len, ordinals, told_at_ordinal}
use Rattle.adapter_list.specs.Targets.{targets_at}
use Rattle.adapter_list.proofs.ReserveLemmas.{asked-all, asked-more, asked-none, asked-some, asked-within, ascending-sorted, first-full, one-each, ordinal-at, ordinals-are, ordinals-len}
use Rattle.adapter_list.proofs.list.AdapterList.reserve_each.Goals as goal

pub loop-ordinal-init : goal.loop-ordinal-init
loop-ordinal-init g c =
    record { kept = refl; as_many = refl; no_fewer = λ k. omega arith; asked = asked-none c.args.self.now.0 c.args.self.now.1 c.args.copies.now (ordinals c.args.copies.now) c.lemma_keeps_rules.ensures.reserve (ordinals-are c.args.copies.now) }

pub reserve_for-requires-clause-within : goal.reserve_for-requires-clause-within
reserve_for-requires-clause-within g c =
    let cs = c.args.copies.now in
    let i = c.loop-ordinal.ordinal-index in
    let low : i < length (ordinals cs) = omega (arith, ordinals-len cs, c.loop-ordinal-test.true) in
    let within = asked-within cs (ordinals cs) (ordinals-are cs) i low (length c.args.self.now.1) c.requires.within in
    let is = ordinal-at cs i c.loop-ordinal-item.result c.loop-ordinal-test.true c.loop-ordinal-item.is in
    omega (arith, within, is, c.loop-ordinal.invariant.as_many)

pub returns-in-Err-clause-full : goal.returns-in-Err-clause-full
returns-in-Err-clause-full g c = λ is.
    let rs = c.args.self.now.0 in
    let cs = c.args.copies.now in
    let all = ordinals cs in
    let i = c.loop-ordinal.ordinal-index in
    let x = get_or all i 0 in
    let low : i < length all = omega (arith, ordinals-len cs, c.loop-ordinal-test.true) in
    let at = ordinal-at cs i c.loop-ordinal-item.result c.loop-ordinal-test.true c.loop-ordinal-item.is in
    let within = asked-within cs all (ordinals-are cs) i low (length c.args.self.now.1) c.requires.within in
    let past : 2 ^ 64 ≤ told_at_ordinal c.loop-ordinal.self.0 c.loop-ordinal-item.result.0 + (1 + targets_at c.loop-ordinal.self.0 c.loop-ordinal-item.result.0) = c.in-Err.ensures.full.0 (ap Err is) in
    let here : 2 ^ 64 ≤ told_at_ordinal rs x + (1 + targets_at rs x) =
    subst (λ (k : ℕ). 2 ^ 64 ≤ told_at_ordinal rs k + (1 + targets_at rs k)) (sym at) (subst (λ (ss : List Listed). 2 ^ 64 ≤ told_at_ordinal ss c.loop-ordinal-item.result.0 + (1 + targets_at ss c.loop-ordinal-item.result.0)) c.loop-ordinal.invariant.kept past) in
    let one = one-each None cs i c.requires.ascending low in
    let full : IsFullFor rs cs x = record { within = omega (arith, within, c.lemma_keeps_rules.ensures.places); some = asked-some cs all (ordinals-are cs) i low; full = omega (arith, here, one) } in
    (x, first-full rs c.loop-ordinal.self.1 c.reserve_for.new.self.1 cs all i (ascending-sorted None all c.requires.ascending) low c.in-Err.ensures.grown.as_many c.in-Err.ensures.grown.no_fewer c.loop-ordinal.invariant.asked full)

pub loop-ordinal-preserved : goal.loop-ordinal-preserved
loop-ordinal-preserved g c =
    let rs = c.args.self.now.0 in
    let qs = c.reserve_for.new.self.1 in
    let cs = c.args.copies.now in
    let all = ordinals cs in
    let i = c.loop-ordinal.ordinal-index in
    let x = get_or all i 0 in
    let asked = c.in_default.ensures in
    let low : i < length all = omega (arith, ordinals-len cs, c.loop-ordinal-test.true) in
    let at = ordinal-at cs i c.loop-ordinal-item.result c.loop-ordinal-test.true c.loop-ordinal-item.is in
    let there : IsReadyFor rs qs x 1 = subst (λ (k : ℕ). IsReadyFor rs qs k 1) (sym at) (subst (λ (ss : List Listed). IsReadyFor ss qs c.loop-ordinal-item.result.0 1) c.loop-ordinal.invariant.kept asked.ok) in
    let ready : IsReadyFor rs qs x (copies_len cs x) = subst (IsReadyFor rs qs x) (sym (one-each None cs i c.requires.ascending low)) there in
    record {
      kept = asked.grown.kept ∙ c.loop-ordinal.invariant.kept;
      as_many = asked.grown.as_many ∙ c.loop-ordinal.invariant.as_many;
      no_fewer = λ k. let more = asked.grown.no_fewer k in let before = c.loop-ordinal.invariant.no_fewer k in omega (arith, more, before);
      asked = asked-more rs c.loop-ordinal.self.1 qs cs all i low asked.grown.as_many asked.grown.no_fewer ready c.loop-ordinal.invariant.asked;
    }

pub returns-clause-ok : goal.returns-clause-ok
returns-clause-ok g c = λ k.
    let cs = c.args.copies.now in
    let past = c.loop-ordinal-test.false in
    asked-all c.args.self.now.0 c.loop-ordinal.self.1 cs (ordinals cs) c.loop-ordinal.ordinal-index k (omega (arith, past, ordinals-len cs)) c.loop-ordinal.invariant.asked
