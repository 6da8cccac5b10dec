-- The metamodels that documents give.
use Rattle.std.specs.Prelude.{◌≡◌, IsTrue}
use Rattle.mm_types.specs.Raw.{RawMetamodel, is_within_limits}
use Rattle.mm_types.specs.Resolved.{Metamodel, resolved_metamodel}
use Rattle.mm_types.specs.WellFormed.{WellFormed}

-- the metamodel m is what some document resolves to; this document is well-formed and within the limits
pub record IsOfDocument (m : Metamodel) : Type 0 where
  pub raw : RawMetamodel
  pub fits : IsTrue (is_within_limits raw)
  pub well_formed : WellFormed raw
  pub is : m ≡ resolved_metamodel raw
