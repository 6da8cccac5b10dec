-- Within a class no two features have one name, once the names are checked.
use Rattle.std.proofs.Common.{◌<◌, inr}
use Rattle.mm_types.specs.Faults.{condition_number}
use Rattle.mm_types.specs.Opposites.{NamesAreUnique}
use Rattle.mm_types.specs.Raw.{RawMetamodel}
use Rattle.mm_types.specs.declared.meta_fault.Condition.{Condition}
use Rattle.mm_types.specs.declared.meta_fault.Condition.TheVariants.{DuplicateName}
use Rattle.mm_types.specs.declared.meta_fault.Place.TheVariants.{Class}
use Rattle.mm_types.proofs.Unique.{unique}
use Rattle.mm_check.specs.Search.{NoneBefore}

pub unique_before : (raw : RawMetamodel) (k : Condition) → 5 < condition_number k → NoneBefore raw k → NamesAreUnique raw
unique_before raw k late none = unique raw (λ c clash. none DuplicateName (Class c) late (inr clash))
