use Rattle.std.proofs.Common.{◌≡◌, ◌++◌, drop}
use Rattle.models.specs.Model.{reading}
use Rattle.models.specs.Reading.{objects_of, roots_end}
use Rattle.fragment_paths.specs.Finding.{roots}
use Rattle.doc_writer.proofs.objects.roots.Given as goal

abbrev pub invariant-positions : goal.invariant-positions
invariant-positions g l =
    let r = reading l.model in
    l.found.items ++ objects_of (drop l.index (r.values (roots_end r l.fn.resource))) ≡ roots r l.fn.resource
