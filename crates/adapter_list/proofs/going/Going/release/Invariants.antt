use Rattle.std.proofs.Common.{◌≡◌, ◌+◌, ◌≤◌, ◌++◌, drop, false, length, vec_len, vec_capacity}
use Rattle.notice_chain.specs.Listed.{HaveTargets}
use Rattle.notice_chain.specs.Released.{adapters_without_targets, told_of_all}
use Rattle.adapter_list.proofs.going.Going.release.Given as goal

abbrev pub invariant-loop-spot : goal.invariant-loop-spot
invariant-loop-spot g l =
    let rest = drop l.spot-index l.spots in
    record {
      told_room : vec_len l.told + length rest ≤ vec_capacity l.told;
      others : adapters_without_targets rest l.self ≡ adapters_without_targets l.spots l.fn.self;
      told : l.told.items ++ told_of_all rest l.self ≡ l.fn.told.items ++ told_of_all l.spots l.fn.self;
      some : l.is_any_bare ≡ false → HaveTargets l.self;
    }
