use Rattle.std.proofs.Common.{true, arith}
use Rattle.adapter_list.proofs.MarkLemmas.{marks-lengthened}
use Rattle.adapter_list.proofs.marks.lengthen.Goals as goal

pub returns-in_ok-resize-clause-same : goal.returns-in_ok-resize-clause-same
returns-in_ok-resize-clause-same c = marks-lengthened true c.args.marks.now.items c.resize.new.self.items c.args.len _ c.in_ok-resize.ensures.items (omega (arith, c.if-old-len.true))
