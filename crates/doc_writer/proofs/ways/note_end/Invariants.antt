use Rattle.std.proofs.Common.{◌≡◌, drop}
use Rattle.std.specs.List.{list_any}
use Rattle.models.specs.Model.{reading}
use Rattle.models.specs.Reading.{objects_of}
use Rattle.doc_writer.specs.Saved.{is_dangling}
use Rattle.doc_writer.proofs.ways.note_end.Given as goal

abbrev pub invariant-positions : goal.invariant-positions
invariant-positions g l =
    let r = reading l.fn.positions in
    let vs = r.values l.end in
    record {
      same : l.positions ≡ l.fn.positions;
      rest : list_any (is_dangling r) (objects_of (drop l.index vs)) ≡ list_any (is_dangling r) (objects_of vs);
    }
