use Rattle.std.proofs.Common.{subst}
use Rattle.mm_types.specs.declared.numbers.Node.{Node}
use Rattle.adapter_list.specs.Targets.{HasMarkRoom}
use Rattle.adapter_list.proofs.MarkLemmas.{set-object}
use Rattle.adapter_list.proofs.marks.set_mark.Goals as goal

pub set_mark_at-requires : goal.set_mark_at-requires
set_mark_at-requires c = λ yes. subst (λ (x : Node). HasMarkRoom c.args.marks.now.items x) c.in-Object.is (c.requires yes)

pub returns-in-Object : goal.returns-in-Object
returns-in-Object c = set-object c.args.marks.now.items c.set_mark_at.new.marks.items c.args.node c.in-Object.object c.args.value c.in-Object.is c.set_mark_at.ensures
