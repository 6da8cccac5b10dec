use Rattle.std.proofs.Common.{◌≡◌, ◌+◌, ◌<◌, ◌≤◌, List, ℕ, length, slice_index, ap, sym, subst, ◌∙◌}
use Rattle.adapters.specs.declared.adapter.NoRoom.TheVariants as room
use Rattle.notice_chain.specs.Listed.{Listed, is_chain_full}
use Rattle.notice_chain.specs.declared.notice.Notice.{Notice}
use Rattle.adapter_list.specs.Counts.{IsFirstFull, IsReadyFor, copies_len}
use Rattle.adapter_list.specs.Rounds.{RoundView, RoundFits, heard_at, round_copies, round_of}
use Rattle.adapter_list.specs.Targets.{targets_at}
use Rattle.adapter_list.proofs.DeliveryLemmas.{AreWithin, RoundFits-more}
use Rattle.adapter_list.proofs.ReserveLemmas.{chain-counted, chain-full, full-from, refusal-is}
use Rattle.adapter_list.proofs.RoundLemmas.{CopiesFit-round_copies, copies_for-round_copies, told_by-round_copies, within-round_copies}
use Rattle.adapter_list.proofs.list.AdapterList.reserve_round.Goals as goal

pub reserve_places-requires : goal.reserve_places-requires
reserve_places-requires g c =
    let up = c.requires.round.0 in
    let ns = c.requires.round.1 in
    let rs = c.args.self.now.0 in
    let copies : c.copies.result.now ≡ round_copies up ns rs = c.copies.ensures ∙ ap (λ (r : RoundView). r.copies) c.requires.round.2 in
    record { within = subst (λ (cs : List (ℕ × Notice)). AreWithin (length c.args.self.now.1) cs) (sym copies) (subst (λ (n : ℕ). AreWithin n (round_copies up ns rs)) (sym c.lemma_keeps_rules.ensures.places) (within-round_copies up ns rs)) }

pub returns-in-Ok : goal.returns-in-Ok
returns-in-Ok g c = λ up ns is.
    let rs = c.args.self.now.0 in
    let ps = c.reserve_places.new.self.1 in
    let copies : c.copies.result.now ≡ round_copies up ns rs = c.copies.ensures ∙ ap (λ (r : RoundView). r.copies) is in
    let long : length rs ≡ length ps = sym (c.in-Ok.ensures.grown.as_many ∙ c.lemma_keeps_rules.ensures.places) in
    let ready : (k : ℕ) → IsReadyFor rs ps k (copies_len (round_copies up ns rs) k) = λ k. subst (λ (cs : List (ℕ × Notice)). IsReadyFor rs ps k (copies_len cs k)) copies (c.in-Ok.ensures.ok k) in
    let room : (k : ℕ) → k < length ps → length (heard_at up ns rs k) + targets_at rs k ≤ slice_index ps k = λ k low. subst (λ (ms : List Notice). length ms + targets_at rs k ≤ slice_index ps k) (copies_for-round_copies up ns rs k) ((ready k).places low) in
    let fits : RoundFits rs ps (round_of up ns rs) = record { copies_fit = CopiesFit-round_copies up ns rs ps long room; told_is = sym (told_by-round_copies up ns rs) } in
    record {
      kept = c.in-Ok.ensures.grown.kept;
      round = is;
      fits = subst (λ (qs : List Listed). RoundFits qs ps c.args.round.now) (sym c.in-Ok.ensures.grown.kept) (subst (λ (r : RoundView). RoundFits rs ps r) (sym is) fits);
      counted = chain-counted up ns rs ps ready;
      reason = tt;
      first = tt;
      no_fewer = c.in-Ok.ensures.grown.no_fewer;
      still_fits = RoundFits-more rs c.reserve_places.new.self.0 c.args.self.now.1 ps c.in-Ok.ensures.grown.kept c.in-Ok.ensures.grown.as_many c.in-Ok.ensures.grown.no_fewer;
    }

pub returns-in-Err : goal.returns-in-Err
returns-in-Err g c = λ up ns is.
    let rs = c.args.self.now.0 in
    let qs = c.reserve_places.new.self.1 in
    let copies : c.copies.result.now ≡ round_copies up ns rs = c.copies.ensures ∙ ap (λ (r : RoundView). r.copies) is in
    let full : c.in-Err.reason ≡ room.Full → (k : ℕ) × IsFirstFull rs qs (round_copies up ns rs) k =
    λ is_full. let one = c.in-Err.ensures.full is_full in (one.0, subst (λ (cs : List (ℕ × Notice)). IsFirstFull rs qs cs one.0) copies one.1) in
    record {
      kept = c.in-Err.ensures.grown.kept;
      round = tt;
      fits = tt;
      counted = tt;
      reason = rw c.refusal.ensures (refusal-is (is_chain_full up ns rs) c.in-Err.reason (λ f. let one = full f in chain-full up ns rs one.0 one.1.full));
      first = λ f. full (full-from c.in-Err.reason (sym c.refusal.ensures ∙ f));
      no_fewer = c.in-Err.ensures.grown.no_fewer;
      still_fits = RoundFits-more rs c.reserve_places.new.self.0 c.args.self.now.1 qs c.in-Err.ensures.grown.kept c.in-Err.ensures.grown.as_many c.in-Err.ensures.grown.no_fewer;
    }
