use Rattle.std.proofs.Common.{◌≡◌, Some, slice_get, sym}
use Rattle.std.specs.Prelude.{option_and_then}
use Rattle.models.specs.Model.{reading}
use Rattle.models.specs.Reading.{object_of}
use Rattle.models.proofs.PlaceLemmas.{object-there}
use Rattle.fragment_paths.proofs.positions.Positions.note_at.Goals as goal

pub note-requires-clause-there : goal.note-requires-clause-there
note-requires-clause-there g c =
    let read : option_and_then object_of (slice_get ((reading c.args.self.now).values c.args.end) c.args.index) ≡ Some c.in-Some.object = rw (← c.model.ensures) (sym c.in-Some.ensures.object) in
    object-there (slice_get ((reading c.args.self.now).values c.args.end) c.args.index) c.in-Some.object read
