use Rattle.std.proofs.Common.{◌+◌}
use Rattle.mm_check.specs.Search.{NoneBelow}
use Rattle.mm_check.proofs.document.first_fault.Given as goal

abbrev pub invariant-conditions : goal.invariant-conditions
invariant-conditions l = NoneBelow l.checker (l.condition-index + 4)
