use Rattle.std.proofs.Common.{◌≡◌, ◌++◌, drop, map}
use Rattle.std.specs.List.{filter_map}
use Rattle.mm_types.specs.Resolved.{class_named, graph_of}
use Rattle.mm_meta.proofs.resolver.Resolver.supertypes.Given as goal

abbrev pub invariant-classes : goal.invariant-classes
invariant-classes l = l.rows.items ++ map (λ c. filter_map (class_named l.self.classes) c.supers) (drop l.class-index l.self.classes) ≡ graph_of l.self.classes
