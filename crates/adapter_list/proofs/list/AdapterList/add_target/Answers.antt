use Rattle.std.proofs.Common.{◌≡◌, ◌≤◌, ◌+◌, ◌^◌, Err, ap, sym, ◌∙◌}
use Rattle.adapters.specs.declared.adapter.NoRoom.TheVariants as room
use Rattle.adapter_list.specs.Counts.{told_at_ordinal}
use Rattle.adapter_list.specs.Refusals.{but_memory}
use Rattle.adapter_list.proofs.WatchLemmas.{target-allowed, target-refused}
use Rattle.adapter_list.proofs.list.AdapterList.add_target.Goals as goal

pub returns-in-Err-clause-reason : goal.returns-in-Err-clause-reason
returns-in-Err-clause-reason g c =
    let back = λ (over : 2 ^ 64 ≤ told_at_ordinal c.args.self.now.0 c.args.ordinal + (c.targets_of-count.result + 1)). let full : Err c.in-Err.reason ≡ Err room.Full = c.in-Err.ensures.full.1 over in let is : c.in-Err.reason ≡ room.Full = cc in is in
    ap but_memory c.refusal.ensures
    ∙ target-refused c.args.self.now.0 c.args.no c.args.ordinal c.targets_of-count.result c.in-Err.reason c.requires.placed c.requires.within c.targets_of-count.ensures.count (λ is. c.in-Err.ensures.full.0 (ap Err is)) back

pub returns-then-is_err-clause-reason : goal.returns-then-is_err-clause-reason
returns-then-is_err-clause-reason g c =
    sym (target-allowed c.args.self.now.0 c.args.no c.args.ordinal c.targets_of-count.result c.requires.placed c.requires.within c.targets_of-count.ensures.count (λ over. let full = c.in_default.ensures.full.1 over in cc))

pub returns-clause-allowed : goal.returns-clause-allowed
returns-clause-allowed g c =
    target-allowed c.args.self.now.0 c.args.no c.args.ordinal c.targets_of-count.result c.requires.placed c.requires.within c.targets_of-count.ensures.count (λ over. let full = c.in_default.ensures.full.1 over in cc)
