use Rattle.std.proofs.Common.{sym, ◌∙◌}
use Rattle.mm_values.proofs.RoomLemmas.{none_needed}
use Rattle.mm_values.proofs.counting.counted.Goals as goal

pub returns-else-has_insert : goal.returns-else-has_insert
returns-else-has_insert c = none_needed c.args.plan.now (sym c.has_insert.ensures ∙ c.if-has_insert.false)
