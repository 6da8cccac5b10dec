use Rattle.std.proofs.Common.{◌≡◌, ◌+◌, length}
use Rattle.mm_types.specs.declared.numbers.Node.TheVariants as node
use Rattle.links.specs.Holders.{above}
use Rattle.doc_writer.proofs.levels.is_too_deep.Given as goal

abbrev pub invariant-up : goal.invariant-up
invariant-up g l = length (above l.model.links l.at) + l.step ≡ length (above l.model.links (node.Object l.fn.object))
