use Rattle.std.proofs.Common.{◌≡◌, ◌++◌, drop}
use Rattle.script_output.specs.Printed.{spaced_objects}
use Rattle.script_output.proofs.output.Output.spaced_objects.Given as goal

abbrev pub invariant-loop-object : goal.invariant-loop-object
invariant-loop-object l = l.self ++ spaced_objects (drop l.object-index l.objects) ≡ l.initial.self ++ spaced_objects l.objects
