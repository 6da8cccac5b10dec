use Rattle.std.proofs.Common.{◌≡◌, false, take}
use Rattle.std.specs.List.{list_any}
use Rattle.models.specs.Model.{reading}
use Rattle.doc_writer.specs.References.{IsReferences}
use Rattle.doc_writer.specs.Saved.{has_dangling}
use Rattle.doc_writer.proofs.ways.note_ways.Given as goal

abbrev pub invariant-objects : goal.invariant-objects
invariant-objects g l =
    record {
      same : l.positions ≡ l.fn.positions;
      references : IsReferences l.fn.positions.metamodel l.by_class;
      none : list_any (has_dangling (reading l.fn.positions)) (take l.object-index l.objects) ≡ false;
    }
