use Rattle.std.proofs.Common.{◌≡◌, ◌++◌, drop, filter, map}
use Rattle.links.specs.Laws.{goes}
use Rattle.models.specs.Model.{reading}
use Rattle.removal.specs.Ranks.{is_in}
use Rattle.removal.specs.TreeLinkEnds.{outer_link_ends, link_end}
use Rattle.removal.proofs.outer_link_ends.push_alone.Given as goal

abbrev pub invariant-loop-index : goal.invariant-loop-index
invariant-loop-index g l =
    let r = reading l.model in
    let is_gone = is_in l.numbers in
    l.link_ends.items ++ map (link_end l.end) (filter (goes is_gone) (drop l.index (r.values l.end))) ≡ l.fn.link_ends.items ++ outer_link_ends r is_gone l.end
