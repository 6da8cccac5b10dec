-- The result of the check of a metamodel document.
use Rattle.std.specs.Prelude.{◌≡◌, Result, Ok, Err}
use Rattle.mm_types.specs.Raw.{RawMetamodel}
use Rattle.mm_types.specs.Resolved.{Metamodel, resolved_metamodel}
use Rattle.mm_types.specs.WellFormed.{IsFirstFault, WellFormed}
use Rattle.mm_types.specs.declared.meta_fault.MetaFault.{MetaFault}
use Rattle.mm_types.specs.declared.meta_fault.MetaFault.TheVariants.{Syntax, Layout, Limit, IllFormed, Memory}

-- the result is the resolved metamodel if the document raw is well-formed, else the first fault of raw; if the result is `Memory`, nothing
-- is said of raw
abbrev pub Checks : RawMetamodel → Result Metamodel MetaFault → Type 0
Checks raw (Ok m) = WellFormed raw × (m ≡ resolved_metamodel raw)
Checks raw (Err Syntax) = ⊥
Checks raw (Err Layout) = ⊥
Checks raw (Err Limit) = ⊥
Checks raw (Err (IllFormed condition place)) = IsFirstFault raw condition place
Checks raw (Err Memory) = Unit {0}
