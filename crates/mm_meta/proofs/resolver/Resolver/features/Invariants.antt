use Rattle.std.proofs.Common.{◌≡◌, ◌++◌, drop}
use Rattle.mm_types.specs.Resolved.{features_from}
use Rattle.mm_meta.proofs.resolver.Resolver.features.Given as goal

abbrev pub invariant-classes : goal.invariant-classes
invariant-classes l = l.features ++ features_from l.self l.c (drop l.c l.classes) ≡ features_from l.self 0 l.classes
