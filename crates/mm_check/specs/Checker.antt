-- What a checker holds.
use Rattle.std.specs.Prelude.{◌≡◌}
use Rattle.mm_types.specs.Raw.{RawMetamodel}
use Rattle.mm_types.specs.Resolved.{graph_of}
use Rattle.mm_types.specs.WellFormed.{own_names}
use Rattle.mm_graph.specs.Order.{InRange}
use Rattle.mm_check.specs.declared.checker.Checker.TheInside.{Inside}

-- the document that a checker checks
abbrev pub checks : Inside → RawMetamodel
checks c = c.resolver

pub record IsChecker (c : Inside) : Type 0 where
  pub graph_is : c.graph.items ≡ graph_of c.resolver.classes
  pub range : InRange c.graph.items
  pub names_are : c.names.items ≡ own_names c.resolver
