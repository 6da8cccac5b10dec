use Rattle.std.proofs.Common.{◌<◌, ℕ}
use Rattle.mm_types.specs.WellFormed.{Applies}
use Rattle.mm_types.specs.declared.meta_fault.Place.TheVariants.{Enum}
use Rattle.mm_check.proofs.checker.Checker.first_enum.Given as goal

abbrev pub invariant-enums : goal.invariant-enums
invariant-enums l = (j : ℕ) → j < l.i → Applies l.self l.condition (Enum j) → ⊥
