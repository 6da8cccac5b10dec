use Rattle.std.proofs.Common.{sym, ◌∙◌}
use Rattle.handshake.proofs.CutLinkEndLemmas.{opposite_end-reference}
use Rattle.handshake.proofs.displaced.yields.Goals as goal

pub add_held-requires-in-Some : goal.add_held-requires-in-Some
add_held-requires-in-Some g c = record { reference = opposite_end-reference c.args.model.now c.args.end c.args.object c.in-Some.far c.lemma_is_legal.ensures (sym c.opposite_end.ensures ∙ c.in-Some.is) }
