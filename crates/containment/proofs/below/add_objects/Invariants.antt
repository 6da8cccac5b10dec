use Rattle.std.proofs.Common.{◌≡◌, ◌++◌, drop}
use Rattle.models.specs.Model.{reading}
use Rattle.models.specs.Reading.{objects_of}
use Rattle.containment.specs.Waiting.{waiting_objects}
use Rattle.containment.proofs.below.add_objects.Given as goal

abbrev pub invariant-loop-index : goal.invariant-loop-index
invariant-loop-index g l =
    let vs = (reading l.model).values l.end in
    waiting_objects l.waiting.items ++ objects_of (drop l.index vs) ≡ waiting_objects l.fn.waiting.items ++ objects_of vs
