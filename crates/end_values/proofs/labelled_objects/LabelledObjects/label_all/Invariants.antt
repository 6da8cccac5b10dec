-- Labels change no object.
use Rattle.std.proofs.Common.{◌≡◌}
use Rattle.end_values.proofs.labelled_objects.LabelledObjects.label_all.Given as goal

abbrev pub invariant-loop-index : goal.invariant-loop-index
invariant-loop-index l = l.self-inside.list ≡ l.fn.self
