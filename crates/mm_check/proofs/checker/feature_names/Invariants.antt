use Rattle.std.proofs.Common.{◌≡◌, ◌++◌, drop, map}
use Rattle.mm_check.proofs.checker.feature_names.Given as goal

abbrev pub invariant-features : goal.invariant-features
invariant-features l = l.names ++ map (λ f. f.name) (drop l.feature-index l.features) ≡ map (λ f. f.name) l.features
