use Rattle.std.proofs.Common.{rules}
use Rattle.durable.proofs.HeadLemmas.{head_is_line}
use Rattle.durable.proofs.head.head_of.Goals as goal

pub returns-clause-line : goal.returns-clause-line
returns-clause-line c = head_is_line _ c.args.digest.now (search rules)
