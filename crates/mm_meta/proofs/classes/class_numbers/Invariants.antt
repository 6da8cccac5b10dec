use Rattle.std.proofs.Common.{◌≡◌, ◌++◌, drop, map}
use Rattle.mm_types.specs.Resolved.{class_no}
use Rattle.mm_meta.proofs.classes.class_numbers.Given as goal

abbrev pub invariant-numbers : goal.invariant-numbers
invariant-numbers l = l.found ++ map class_no (drop l.n-index l.numbers) ≡ map class_no l.numbers
