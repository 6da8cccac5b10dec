use Rattle.std.proofs.Common.{◌≡◌, flat_map, take}
use Rattle.models.specs.Model.{reading}
use Rattle.containment.specs.Forest.{subtree}
use Rattle.doc_writer.proofs.objects.objects_below.Given as goal

abbrev pub invariant-roots : goal.invariant-roots
invariant-roots g l = l.found.items ≡ flat_map (subtree (reading l.model)) (take l.root-index l.roots)
