-- What the check of a document finds.
use Rattle.mm_types.specs.Raw.{RawMetamodel}
use Rattle.mm_types.specs.WellFormed.{IsFirstFault, WellFormed}
use Rattle.mm_meta.specs.Resolution.{IsResolutionOf}
use Rattle.mm_check.specs.declared.document.Outcome.{Outcome}
use Rattle.mm_check.specs.declared.document.Outcome.TheVariants as found

-- the first fault of the document, or the resolution of a well-formed document
abbrev pub Finds : RawMetamodel → Outcome → Type 0
Finds raw (found.Fault condition place) = IsFirstFault raw condition place
Finds raw (found.Resolution r) = WellFormed raw × IsResolutionOf raw r
