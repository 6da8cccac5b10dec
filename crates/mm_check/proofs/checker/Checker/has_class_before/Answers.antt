use Rattle.std.proofs.Common.{Some, None}
use Rattle.mm_check.proofs.NamesBefore.{among_before}
use Rattle.mm_check.proofs.checker.Checker.has_class_before.Goals as goal

pub returns-in-Some : goal.returns-in-Some
returns-in-Some c = rw (← c.self.view_is) (among_before (λ k. k.name) c.args.name.now c.args.c c.self.inside.resolver.classes (Some c.in-Some.first) c.in-Some.ensures)

pub returns-in-None : goal.returns-in-None
returns-in-None c = rw (← c.self.view_is) (among_before (λ k. k.name) c.args.name.now c.args.c c.self.inside.resolver.classes None c.in-None.ensures)
