use Rattle.std.proofs.Common.{arith}
use Rattle.adapter_list.proofs.MarkLemmas.{mark-absent, mark-set}
use Rattle.adapter_list.proofs.marks.set_mark_at.Goals as goal

pub returns-then-number-len : goal.returns-then-number-len
returns-then-number-len c = mark-set c.args.marks.now.items c.args.number c.args.value (omega (arith, c.if-number-len.true, c.len-len.ensures))

pub returns-else-number-len : goal.returns-else-number-len
returns-else-number-len c = mark-absent c.args.marks.now.items c.args.number c.args.value c.requires (omega (arith, c.if-number-len.false, c.len-len.ensures))
