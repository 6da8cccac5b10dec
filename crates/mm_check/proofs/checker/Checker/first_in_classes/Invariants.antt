use Rattle.mm_check.specs.Search.{AppliesToNone}
use Rattle.mm_check.proofs.checker.Checker.first_in_classes.Given as goal

abbrev pub invariant-classes : goal.invariant-classes
invariant-classes l = AppliesToNone l.self l.condition l.c
