use Rattle.std.proofs.Common.{◌≡◌, Some, sym, subst}
use Rattle.mm_types.specs.declared.numbers.Node.TheVariants as node
use Rattle.models.specs.Legal.{IsLegal}
use Rattle.models.specs.Model.{Model, reading}
use Rattle.fragment_paths.proofs.HeldLemmas.{held}
use Rattle.fragment_paths.proofs.UpLemmas.{locate-falls}
use Rattle.fragment_paths.proofs.positions.Positions.note_way.Goals as goal

pub note_end-requires : goal.note_end-requires
note_end-requires g c =
    let legal = subst IsLegal (sym c.up.invariant) c.lemma_is_legal.ensures in
    record { reference = (held c.up.self legal c.up.at c.in-Some.end (sym c.in-Some.ensures)).reference }

pub up-smaller : goal.up-smaller
up-smaller g c =
    let holds = subst (λ (s : Model). Some c.in-Some.end ≡ (reading s).holder (node.Object c.up.at)) c.up.invariant c.in-Some.ensures in
    locate-falls c.args.self.now c.lemma_is_legal.ensures c.up.at c.in-Some.end c.in-Object.above holds c.in-Object.is
