use Rattle.std.proofs.Common.{◌≡◌, ◌≤◌, ◌++◌, length, take}
use Rattle.models.specs.Model.{reading}
use Rattle.handshake.specs.Displaced.{link_ends_backwards}
use Rattle.handshake.proofs.displaced.link_ends_backwards.Given as goal

abbrev pub invariant-loop-index : goal.invariant-loop-index
invariant-loop-index g l = let vs = (reading l.model).values l.end in (l.index ≤ length vs) × (l.link_ends.items ++ link_ends_backwards l.end (take l.index vs) ≡ link_ends_backwards l.end vs)
