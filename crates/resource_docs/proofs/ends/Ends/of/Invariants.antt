use Rattle.std.proofs.Common.{take}
use Rattle.resource_docs.specs.Ends.{IsEndsOf}
use Rattle.resource_docs.proofs.ends.Ends.of.Given as goal

abbrev pub invariant-objects : goal.invariant-objects
invariant-objects l = IsEndsOf l.ends (take l.i l.objects)
