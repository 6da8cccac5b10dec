use Rattle.std.proofs.Common.{◌≡◌, drop}
use Rattle.std.specs.List.{list_any}
use Rattle.models.specs.Model.{reading}
use Rattle.handshake.specs.Displaced.{same_link}
use Rattle.handshake.proofs.link_end.is_among.Given as goal

abbrev pub invariant-loop-other : goal.invariant-loop-other
invariant-loop-other g l = let same = same_link (reading l.model) l.link_end in list_any same (drop l.other-index l.link_ends) ≡ list_any same l.link_ends
