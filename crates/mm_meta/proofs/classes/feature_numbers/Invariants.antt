use Rattle.std.proofs.Common.{◌≡◌, ◌++◌, drop, map}
use Rattle.mm_types.specs.Resolved.{feature_no}
use Rattle.mm_meta.proofs.classes.feature_numbers.Given as goal

abbrev pub invariant-numbers : goal.invariant-numbers
invariant-numbers l = l.found.items ++ map feature_no (drop l.n-index l.numbers) ≡ map feature_no l.numbers
