use Rattle.std.proofs.Common.{◌≡◌, length, option_map}
use Rattle.mm_types.specs.declared.numbers.Node.TheVariants as node
use Rattle.links.specs.Holders.{above}
use Rattle.models.specs.Model.{reading}
use Rattle.fragment_paths.specs.Located.{location_of}
use Rattle.fragment_paths.proofs.UpLemmas.{further}
use Rattle.fragment_paths.proofs.paths.locate.Given as goal

-- the steps so far, and the location of the object that is reached now
abbrev pub invariant-up : goal.invariant-up
invariant-up g l = option_map (further l.steps.items) (location_of (reading l.positions) l.at) ≡ location_of (reading l.positions) l.fn.object

abbrev pub decreases-up : goal.decreases-up
decreases-up g l = length (above l.positions.links (node.Object l.at))
