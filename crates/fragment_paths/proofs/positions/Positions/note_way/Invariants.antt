use Rattle.std.proofs.Common.{◌≡◌, length}
use Rattle.mm_types.specs.declared.numbers.Node.TheVariants as node
use Rattle.links.specs.Holders.{above}
use Rattle.fragment_paths.proofs.positions.Positions.note_way.Given as goal

abbrev pub invariant-up : goal.invariant-up
invariant-up g l = l.self ≡ l.fn.self

abbrev pub decreases-up : goal.decreases-up
decreases-up g l = length (above l.fn.self.links (node.Object l.at))
