use Rattle.std.proofs.Common.{◌≡◌, ◌++◌, drop, map}
use Rattle.models.specs.Model.{reading}
use Rattle.removal.specs.TreeLinkEnds.{link_end}
use Rattle.handshake.proofs.displaced.link_ends_at.Given as goal

abbrev pub invariant-loop-index : goal.invariant-loop-index
invariant-loop-index g l = let vs = (reading l.model).values l.end in l.link_ends.items ++ map (link_end l.end) (drop l.index vs) ≡ map (link_end l.end) vs
