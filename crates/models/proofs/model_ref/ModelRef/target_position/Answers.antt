use Rattle.std.proofs.Common.{◌≤◌, ℕ, sym, ◌∙◌, subst}
use Rattle.models.proofs.PlaceLemmas.{position-nowhere, position-same}
use Rattle.models.proofs.model_ref.ModelRef.target_position.Goals as goal

pub returns-then-has_target : goal.returns-then-has_target
returns-then-has_target g c =
    position-same c.args.self.now c.args.end c.args.value.now c.positions.index c.lemma_is_legal.ensures c.requires.reference (sym c.has_target.ensures ∙ c.if-has_target.true)

pub returns : goal.returns
returns g c =
    position-nowhere c.args.self.now c.args.end c.args.value.now c.positions.index c.lemma_is_legal.ensures c.requires.reference
    (subst (λ (n : ℕ). n ≤ c.positions.index) c.len-index-end.ensures c.positions-test.false) c.positions.invariant
