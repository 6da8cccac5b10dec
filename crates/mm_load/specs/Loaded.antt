-- What the bytes of a document give: the metamodel, or the first of the faults `Syntax`, `Layout` and `Limit` that applies.
use Rattle.std.specs.Prelude.{ℕ, ◌≡◌, List, Option, Some, None, Result, Ok, Err, if◌then◌else◌}
use Rattle.std.specs.Str.{is_utf8}
use Rattle.serde_json.specs.Data.{Data}
use Rattle.serde_json.specs.Read.{read}
use Rattle.mm_types.specs.Raw.{RawMetamodel, is_within_limits}
use Rattle.mm_types.specs.declared.meta_fault.MetaFault.{MetaFault}
use Rattle.mm_types.specs.declared.meta_fault.MetaFault.TheVariants.{Syntax, Layout, Limit, Memory}
use Rattle.mm_load.specs.Layout.{document}

-- the metamodel if it is within the limits, else `Limit`
abbrev pub metamodel_if_within_limits : RawMetamodel → Result RawMetamodel MetaFault
metamodel_if_within_limits raw = if is_within_limits raw then Ok raw else Err Limit

-- `Layout` if there is no metamodel, since the layout is wrong; else the result of the check of the limits
abbrev pub metamodel_of_layout : Option RawMetamodel → Result RawMetamodel MetaFault
metamodel_of_layout None = Err Layout
metamodel_of_layout (Some raw) = metamodel_if_within_limits raw

-- `Syntax` if there is no JSON value, since the bytes are no JSON; else the result of the checks of the layout and of the limits
abbrev pub metamodel_of_json : Option Data → Result RawMetamodel MetaFault
metamodel_of_json None = Err Syntax
metamodel_of_json (Some d) = metamodel_of_layout (document d)

-- the metamodel that the bytes describe, or the first fault that applies
unfoldable pub metamodel_of_bytes : List ℕ → Result RawMetamodel MetaFault
metamodel_of_bytes bytes = if is_utf8 bytes then metamodel_of_json (read bytes) else Err Syntax

-- what the loader may return: `wanted`, or `Memory` in place of `wanted`
abbrev pub Loads : Result RawMetamodel MetaFault → Result RawMetamodel MetaFault → Type 0
Loads (Err Memory) wanted = Unit {0}
Loads result wanted = wanted ≡ result
