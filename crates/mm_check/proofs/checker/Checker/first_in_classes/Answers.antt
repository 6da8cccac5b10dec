use Rattle.std.proofs.Common.{arith}
use Rattle.mm_check.proofs.Deciding.{nowhere}
use Rattle.mm_check.proofs.checker.Checker.first_in_classes.Goals as goal

pub returns : goal.returns
returns c = nowhere c.args.self.now c.args.condition c.classes.c (omega arith) c.requires.no_enum c.classes.invariant
