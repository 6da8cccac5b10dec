use Rattle.std.proofs.Common.{map}
use Rattle.mm_meta.proofs.FeatureNameLemmas.{AreMet}
use Rattle.mm_meta.proofs.feature_names.next_of_name.Given as goal

abbrev pub invariant-back : goal.invariant-back
invariant-back l = AreMet (map (λ x. x.name) l.features) l.f l.next.items l.met.items

abbrev pub decreases-back : goal.decreases-back
decreases-back l = l.f
