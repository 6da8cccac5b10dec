use Rattle.std.proofs.Common.{◌≡◌, ◌++◌, drop, map}
use Rattle.mm_types.specs.Resolved.{resolved_feature}
use Rattle.mm_meta.proofs.resolver.Resolver.add_features.Given as goal

abbrev pub invariant-features : goal.invariant-features
invariant-features l = l.features ++ map (resolved_feature l.self l.owner) (drop l.feature-index l.raw) ≡ l.initial.features ++ map (resolved_feature l.self l.owner) l.raw
