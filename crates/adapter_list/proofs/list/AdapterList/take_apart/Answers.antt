use Rattle.std.proofs.Common.{ap, subst}
use Rattle.notice_chain.specs.Listed.{HaveTargets}
use Rattle.adapter_list.proofs.list.AdapterList.take_apart.Goals as goal

pub returns-clause-some : goal.returns-clause-some
returns-clause-some g c = subst HaveTargets (ap (λ v. v.0) c.replace.ensures.value) c.of.ensures.some
