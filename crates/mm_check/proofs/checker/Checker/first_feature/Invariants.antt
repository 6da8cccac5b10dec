use Rattle.std.proofs.Common.{◌<◌, ℕ}
use Rattle.mm_types.specs.WellFormed.{Applies}
use Rattle.mm_types.specs.declared.meta_fault.Place.TheVariants.{Feature}
use Rattle.mm_check.proofs.checker.Checker.first_feature.Given as goal

abbrev pub invariant-features : goal.invariant-features
invariant-features l = (j : ℕ) → j < l.i → Applies l.self l.condition (Feature l.c j) → ⊥
