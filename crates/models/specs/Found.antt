-- What was found at an end, as a value.
use Rattle.mm_types.specs.declared.value.Value.{Value}
use Rattle.mm_types.specs.declared.value.Value.TheVariants as value
use Rattle.models.specs.declared.reads.Found.{Found}
use Rattle.models.specs.declared.reads.Found.TheVariants.{Kept, Object, Proxy}

abbrev pub found_value : Found → Value
found_value (Kept v) = v.now
found_value (Object o) = value.Object o
found_value (Proxy t) = value.Proxy t.now
