use Rattle.mm_types.proofs.Opposing.{with_container}
use Rattle.mm_check.proofs.checker.Checker.has_bad_container_bound.Goals as goal

pub returns-then-is_not_bounded_by_one : goal.returns-then-is_not_bounded_by_one
returns-then-is_not_bounded_by_one c = rw (c.in-Feature.is, c.is_container.ensures) (with_container c.args.self.now c.requires c.in-Feature.c c.in-Feature.i _ c.if-is_not_bounded_by_one.ensures)
