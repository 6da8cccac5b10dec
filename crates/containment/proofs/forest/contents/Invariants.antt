use Rattle.std.proofs.Common.{◌≡◌, ◌++◌, drop}
use Rattle.models.specs.Model.{reading}
use Rattle.containment.specs.Forest.{parts}
use Rattle.containment.proofs.forest.contents.Given as goal

abbrev pub invariant-loop-feature : goal.invariant-loop-feature
invariant-loop-feature g l = l.out.items ++ parts (reading l.model) l.node (drop l.feature-index l.features) ≡ parts (reading l.model) l.node l.features
