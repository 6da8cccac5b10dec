use Rattle.std.proofs.Common.{◌∙◌, sym}
use Rattle.handshake.proofs.KnownLemmas.{single-below-limit}
use Rattle.handshake.proofs.gains.is_at_limit.Goals as goal

pub returns-then-is_single_reference : goal.returns-then-is_single_reference
returns-then-is_single_reference g c = sym (single-below-limit c.args.model.now c.args.end c.lemma_is_legal.ensures (rw c.meta.ensures at (sym c.is_single_reference.ensures ∙ c.if-is_single_reference.true)))
