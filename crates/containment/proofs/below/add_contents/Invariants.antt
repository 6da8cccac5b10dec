use Rattle.std.proofs.Common.{◌≡◌, ◌++◌, drop}
use Rattle.models.specs.Model.{reading}
use Rattle.containment.specs.Forest.{parts}
use Rattle.containment.specs.Waiting.{waiting_objects}
use Rattle.containment.proofs.below.add_contents.Given as goal

abbrev pub invariant-loop-feature : goal.invariant-loop-feature
invariant-loop-feature g l =
    waiting_objects l.waiting.items ++ parts (reading l.model) l.node (drop l.feature-index l.features) ≡ waiting_objects l.fn.waiting.items ++ parts (reading l.model) l.node l.features
