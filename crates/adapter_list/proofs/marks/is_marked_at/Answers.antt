use Rattle.std.proofs.Common.{arith, sym}
use Rattle.adapter_list.proofs.MarkLemmas.{mark-past}
use Rattle.adapter_list.proofs.marks.is_marked_at.Goals as goal

pub returns : goal.returns
returns c = sym (mark-past c.args.marks.now c.args.number (omega (arith, c.if-number-len.false)))
