use Rattle.std.proofs.Common.{◌≡◌, ◌++◌, drop}
use Rattle.script_output.specs.Printed.{spaced_features}
use Rattle.script_output.proofs.output.Output.spaced_features.Given as goal

abbrev pub invariant-loop-feature : goal.invariant-loop-feature
invariant-loop-feature l = l.self ++ spaced_features l.meta (drop l.feature-index l.features) ≡ l.initial.self ++ spaced_features l.meta l.features
