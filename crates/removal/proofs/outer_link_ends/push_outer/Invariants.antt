use Rattle.std.proofs.Common.{◌≡◌, ◌++◌, drop, flat_map}
use Rattle.models.specs.Model.{reading}
use Rattle.removal.specs.Ranks.{is_in}
use Rattle.removal.specs.TreeLinkEnds.{outer_link_ends}
use Rattle.removal.proofs.outer_link_ends.push_outer.Given as goal

abbrev pub invariant-loop-end : goal.invariant-loop-end
invariant-loop-end g l =
    let of_end = outer_link_ends (reading l.model) (is_in l.numbers) in
    l.link_ends.items ++ flat_map of_end (drop l.end-index l.ends) ≡ l.fn.link_ends.items ++ flat_map of_end l.ends
