use Rattle.mm_types.proofs.Opposing.{with_container}
use Rattle.mm_check.proofs.checker.Checker.both_contain.Goals as goal

pub returns-then-is_containment_at : goal.returns-then-is_containment_at
returns-then-is_containment_at c = rw (c.in-Feature.is, c.is_container.ensures) (with_container c.args.self.now c.requires c.in-Feature.c c.in-Feature.i _ c.if-is_containment_at.ensures)
