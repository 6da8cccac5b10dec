use Rattle.std.proofs.Common.{◌≡◌, ◌∙◌, ◌<◌, arith, below_more, false, sym, true, ℕ}
use Rattle.mm_types.specs.WellFormed.{Applies}
use Rattle.mm_types.specs.declared.meta_fault.Place.TheVariants.{Feature}
use Rattle.mm_check.specs.Search.{feature_count}
use Rattle.mm_check.proofs.Inside.{feature_inside}
use Rattle.mm_check.proofs.checker.Checker.first_feature.Goals as goal

pub features-preserved : goal.features-preserved
features-preserved c = below_more (λ (j : ℕ). Applies c.args.self.now c.args.condition (Feature c.args.c j) → ⊥) _ c.features.invariant
    (λ h. let bad : true ≡ false = sym (c.in_ok-applies.ensures.1 h) ∙ c.if-branch.false in cc)

pub returns : goal.returns
returns c i h =
    let low : i < feature_count c.args.self.now c.args.c = (feature_inside c.args.self.now c.args.condition c.args.c i h).1 in
    c.features.invariant i (omega arith) h
