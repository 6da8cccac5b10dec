use Rattle.std.proofs.Common.{◌≡◌, false, take}
use Rattle.std.specs.List.{list_any}
use Rattle.models.specs.Model.{reading}
use Rattle.doc_writer.specs.Saved.{dangles_by}
use Rattle.doc_writer.proofs.ways.note_features.Given as goal

abbrev pub invariant-features : goal.invariant-features
invariant-features g l =
    record {
      same : l.positions ≡ l.fn.positions;
      none : list_any (dangles_by (reading l.fn.positions) l.object) (take l.feature-index l.features) ≡ false;
    }
