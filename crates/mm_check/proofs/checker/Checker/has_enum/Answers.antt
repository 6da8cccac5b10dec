use Rattle.std.proofs.Common.{◌∙◌}
use Rattle.mm_check.proofs.NamesBefore.{among_all}
use Rattle.mm_check.proofs.checker.Checker.has_enum.Goals as goal

pub returns : goal.returns
returns c = rw (← c.self.view_is) (c.is_some.ensures ∙ among_all (λ e. e.name) c.args.name.now c.self.inside.resolver.enums c.enumeration.result c.enumeration.ensures)
