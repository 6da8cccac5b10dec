use Rattle.std.proofs.Common.{◌≡◌, take}
use Rattle.std.specs.Prelude.{◌||◌}
use Rattle.resource_docs.specs.Ends.{by_values, has}
use Rattle.resource_docs.specs.declared.ends.Naming.{Naming}
use Rattle.resource_docs.proofs.ends.Ends.add_values.Given as goal

abbrev pub invariant-values : goal.invariant-values
invariant-values l = (k : Naming) → has l.self k ≡ has l.initial.self k || by_values l.object l.feature.0 (take l.value-index l.values) k
