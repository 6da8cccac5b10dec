use Rattle.mm_types.proofs.Opposing.{lacks_decides}
use Rattle.mm_check.proofs.checker.Checker.lacks_opposite.Goals as goal

pub returns-in-Feature : goal.returns-in-Feature
returns-in-Feature c = rw (c.in-Feature.is, c.lacks_opposite_at.ensures) (lacks_decides c.args.self.now c.requires c.in-Feature.c c.in-Feature.i)
