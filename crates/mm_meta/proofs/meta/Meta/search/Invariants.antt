use Rattle.std.proofs.Common.{◌-◌, length}
use Rattle.mm_meta.specs.FeatureNames.{ComesTo}
use Rattle.mm_meta.proofs.meta.Meta.search.Given as goal

abbrev pub invariant-same : goal.invariant-same
invariant-same l = ComesTo l.self l.class l._name l.at

abbrev pub decreases-same : goal.decreases-same
decreases-same l = length l.self.features - l.at
