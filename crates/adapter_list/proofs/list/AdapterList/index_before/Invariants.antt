use Rattle.std.proofs.Common.{◌≡◌, filter, length, nat_lt, position, take, false}
use Rattle.std.specs.Option.{option_map_or}
use Rattle.notice_chain.specs.Listed.{has_no}
use Rattle.adapter_list.proofs.list.AdapterList.index_before.Given as goal

abbrev pub invariant-loop-entry : goal.invariant-loop-entry
invariant-loop-entry g l = l.index ≡ length (filter (λ e. option_map_or (λ k. nat_lt k l.ordinal) (position (has_no e.no) l.self.0) false) (take l.entry-index l.entry-items))
