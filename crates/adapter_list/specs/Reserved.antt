-- The result of reserving a chain: a round that fits the adapters and their capacities, or a refusal. The refusal is `Memory`, or it is
-- `AdapterFull` and some adapter can't count its notifications of the chain and a last notification from each of its targets.
use Rattle.std.specs.Prelude.{◌≡◌, ℕ, ◌≤◌, false, List, slice_index, Result, Ok, Err, IfErr, IfOk, OnOk}
use Rattle.mm_types.specs.declared.refused.Refused.{Refused}
use Rattle.mm_types.specs.declared.refused.Refused.TheVariants.{AdapterFull}
use Rattle.notice_chain.specs.Listed.{Above, Listed, is_chain_full}
use Rattle.notice_chain.specs.declared.notice.Notice.{Notice}
use Rattle.adapter_list.specs.Counts.{IsFirstFull}
use Rattle.adapter_list.specs.Refusals.{IsChainRefusal}
use Rattle.adapter_list.specs.Rounds.{RoundFits, RoundView, round_copies, round_of}

-- what reserving a chain does to the adapters and their capacities (`old` before, `new` after), and what it returns. The targets and the
-- views of the adapters stay the same, and no adapter loses capacity. So a round that fitted the adapters still fits them. The result is
-- the round of the chain, which fits the adapters, or the refusal. There is a round only if each adapter can count its notifications of the
-- chain and a last notification from each of its targets. If the refusal is `AdapterFull`, each adapter that comes before the first full
-- adapter in attach order has the capacity that it needs.
pub record IsReserved (up : Above) (chain : List Notice) (old new : List Listed × List ℕ) (result : Result RoundView Refused) : Type 0 where
  pub kept : new.0 ≡ old.0
  pub round : IfOk result (λ r. r ≡ round_of up chain old.0)
  pub fits : IfOk result (λ r. RoundFits new.0 new.1 r)
  pub counted : OnOk result (is_chain_full up chain old.0 ≡ false)
  pub reason : IfErr result (λ e. IsChainRefusal (is_chain_full up chain old.0) e)
  pub first : IfErr result (λ e. e ≡ AdapterFull → (k : ℕ) × IsFirstFull old.0 new.1 (round_copies up chain old.0) k)
  pub no_fewer : (k : ℕ) → slice_index old.1 k ≤ slice_index new.1 k
  pub still_fits : (r : RoundView) → RoundFits old.0 old.1 r → RoundFits new.0 new.1 r

-- the round if the reservation succeeded, else its refusal
abbrev pub reserved_round : {U : Type 0} → RoundView → Result U Refused → Result RoundView Refused
reserved_round r (Ok u) = Ok r
reserved_round r (Err e) = Err e
