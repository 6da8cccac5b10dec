use Rattle.std.proofs.Common.{◌<◌, ap, sym, ◌∙◌, arith}
use Rattle.mm_types.specs.declared.limits.TheConstants.{TARGETS}
use Rattle.notice_chain.specs.Listed.{targets_len}
use Rattle.adapter_list.proofs.WatchLemmas.{watch-unknown}
use Rattle.adapter_list.proofs.list.AdapterList.watch.Goals as goal

pub returns-in_default-clause-reason : goal.returns-in_default-clause-reason
returns-in_default-clause-reason g c =
    let few : targets_len c.args.self.now.0 < TARGETS = omega (arith, c.self.invariant.sound.counted, ap (λ v. targets_len v.0) c.self.view_is) in
    watch-unknown c.args.self.now.0 c.args.no c.args.node (sym c.is_target.ensures ∙ c.if-is_target.false) few c.in_default.ensures.ordinal
