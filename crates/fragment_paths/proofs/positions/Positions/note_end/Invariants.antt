use Rattle.std.proofs.Common.{◌≡◌}
use Rattle.fragment_paths.proofs.positions.Positions.note_end.Given as goal

abbrev pub invariant-positions : goal.invariant-positions
invariant-positions g l = l.self ≡ l.fn.self
