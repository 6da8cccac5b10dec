use Rattle.std.proofs.Common.{◌≡◌, ◌++◌, drop}
use Rattle.script_output.specs.Printed.{spaced_values}
use Rattle.script_output.proofs.output.Output.spaced_values.Given as goal

abbrev pub invariant-loop-value : goal.invariant-loop-value
invariant-loop-value l = l.self ++ spaced_values l.meta l.feature (drop l.value-index l.values) ≡ l.initial.self ++ spaced_values l.meta l.feature l.values
