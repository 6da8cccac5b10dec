use Rattle.std.proofs.Common.{◌≡◌, drop}
use Rattle.mm_types.specs.Features.{with_new}
use Rattle.mm_graph.proofs.features.add_new.Given as goal

abbrev pub invariant-loop-feature : goal.invariant-loop-feature
invariant-loop-feature l = with_new l.found.keys (drop l.feature-index l.features) ≡ with_new l.initial.found.keys l.features
