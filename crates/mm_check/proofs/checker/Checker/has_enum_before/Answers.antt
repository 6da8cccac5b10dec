use Rattle.std.proofs.Common.{Some, None}
use Rattle.mm_check.proofs.NamesBefore.{among_before}
use Rattle.mm_check.proofs.checker.Checker.has_enum_before.Goals as goal

pub returns-in-Some : goal.returns-in-Some
returns-in-Some c = rw (← c.self.view_is) (among_before (λ e. e.name) c.args.name.now c.args.i c.self.inside.resolver.enums (Some c.in-Some.first) c.in-Some.ensures)

pub returns-in-None : goal.returns-in-None
returns-in-None c = rw (← c.self.view_is) (among_before (λ e. e.name) c.args.name.now c.args.i c.self.inside.resolver.enums None c.in-None.ensures)
