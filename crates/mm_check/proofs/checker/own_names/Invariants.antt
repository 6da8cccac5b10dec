use Rattle.std.proofs.Common.{◌≡◌, ◌++◌, drop, map}
use Rattle.mm_check.proofs.checker.own_names.Given as goal

abbrev pub invariant-classes : goal.invariant-classes
invariant-classes l = l.names.items ++ map (λ c. map (λ f. f.name) c.features) (drop l.class-index l.classes) ≡ map (λ c. map (λ f. f.name) c.features) l.classes
