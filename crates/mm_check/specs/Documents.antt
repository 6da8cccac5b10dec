-- What a metamodel document gives: its well-formed metamodel, or why it is refused.
use Rattle.std.specs.Prelude.{◌≡◌, ◌⊎◌, ℕ, List, Result, Ok, Err}
use Rattle.mm_types.specs.Raw.{RawMetamodel}
use Rattle.mm_types.specs.Resolved.{Metamodel, resolved_metamodel}
use Rattle.mm_types.specs.WellFormed.{WellFormed}
use Rattle.mm_types.specs.declared.meta_fault.MetaFault.{MetaFault}
use Rattle.mm_types.specs.declared.meta_fault.MetaFault.TheVariants.{Memory}
use Rattle.mm_load.specs.Loaded.{metamodel_of_bytes}
use Rattle.mm_check.specs.Checks.{Checks}

-- why a metamodel document is refused: its first fault, or `Memory`
abbrev pub IsRefusedFor : List ℕ → MetaFault → Type 0
IsRefusedFor bytes f = (f ≡ Memory) ⊎ ((metamodel_of_bytes bytes ≡ Err f) ⊎ ((raw : RawMetamodel) × (metamodel_of_bytes bytes ≡ Ok raw) × Checks raw (Err f)))

-- what a metamodel document gives: its well-formed metamodel, or why it is refused
abbrev pub Gives : List ℕ → Result Metamodel MetaFault → Type 0
Gives bytes (Ok m) = (raw : RawMetamodel) × (metamodel_of_bytes bytes ≡ Ok raw) × WellFormed raw × (m ≡ resolved_metamodel raw)
Gives bytes (Err f) = IsRefusedFor bytes f
