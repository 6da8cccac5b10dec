use Rattle.std.proofs.Common.{◌≡◌, ◌++◌, drop, filter, map}
use Rattle.models.specs.Model.{reading}
use Rattle.removal.specs.Ranks.{is_in}
use Rattle.removal.specs.TreeLinkEnds.{end_link_ends, is_named_here, link_end}
use Rattle.removal.proofs.inner_link_ends.push_end.Given as goal

abbrev pub invariant-loop-index : goal.invariant-loop-index
invariant-loop-index g l =
    let r = reading l.model in
    let is_gone = is_in l.numbers in
    l.link_ends.items ++ map (link_end l.end) (filter (is_named_here r is_gone l.end.feature) (drop l.index (r.values l.end))) ≡ l.fn.link_ends.items ++ end_link_ends r is_gone l.end
