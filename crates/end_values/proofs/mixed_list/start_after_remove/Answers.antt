use Rattle.std.proofs.Common.{arith}
use Rattle.end_values.proofs.ProxyLemmas.{none_before-remove, none_before-remove_past}
use Rattle.end_values.proofs.mixed_list.start_after_remove.Goals as goal

pub returns-then-index-start : goal.returns-then-index-start
returns-then-index-start c = λ vs none. none_before-remove c.args.start c.args.index vs none

pub returns-else-index-start : goal.returns-else-index-start
returns-else-index-start c = λ vs none. none_before-remove_past c.args.start c.args.index vs (omega (arith, c.if-index-start.false)) none
