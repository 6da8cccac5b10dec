use Rattle.std.proofs.Common.{◌≡◌, ◌++◌, drop, flat_map}
use Rattle.models.specs.Model.{reading}
use Rattle.removal.specs.Ranks.{is_in}
use Rattle.removal.specs.TreeLinkEnds.{node_link_ends}
use Rattle.removal.proofs.inner_link_ends.push_inner.Given as goal

abbrev pub invariant-loop-object : goal.invariant-loop-object
invariant-loop-object g l =
    let of_object = node_link_ends (reading l.model) (is_in l.numbers) in
    l.link_ends.items ++ flat_map of_object (drop l.object-index l.objects) ≡ l.fn.link_ends.items ++ flat_map of_object l.objects
