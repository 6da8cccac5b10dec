use Rattle.std.proofs.Common.{◌≡◌, ◌++◌, drop}
use Rattle.std.specs.List.{filter_map}
use Rattle.mm_types.specs.Resolved.{class_named}
use Rattle.mm_meta.proofs.resolver.Resolver.supers_of.Given as goal

abbrev pub invariant-names : goal.invariant-names
invariant-names l = l.found ++ filter_map (class_named l.self.classes) (drop l.name-index l.names) ≡ filter_map (class_named l.self.classes) l.names
