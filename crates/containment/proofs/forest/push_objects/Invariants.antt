use Rattle.std.proofs.Common.{◌≡◌, ◌++◌, drop}
use Rattle.models.specs.Model.{reading}
use Rattle.models.specs.Reading.{objects_of}
use Rattle.containment.proofs.forest.push_objects.Given as goal

abbrev pub invariant-loop-index : goal.invariant-loop-index
invariant-loop-index g l = let vs = (reading l.model).values l.end in l.out.items ++ objects_of (drop l.index vs) ≡ l.fn.out.items ++ objects_of vs
