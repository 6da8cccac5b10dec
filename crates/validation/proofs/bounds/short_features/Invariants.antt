use Rattle.std.proofs.Common.{◌≡◌, ◌++◌, drop, filter}
use Rattle.mm_types.specs.declared.numbers.FeatureNo.{FeatureNo}
use Rattle.models.specs.Model.{reading}
use Rattle.models.specs.Reading.{at_end}
use Rattle.validation.specs.Bounds.{is_too_few}
use Rattle.validation.proofs.bounds.short_features.Given as goal

abbrev pub invariant-loop-feature : goal.invariant-loop-feature
invariant-loop-feature g l =
    let test = λ (f : FeatureNo). is_too_few (reading l.model) (at_end l.node f) in
    l.out.items ++ filter test (drop l.feature-index l.features) ≡ filter test l.features
