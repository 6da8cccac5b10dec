use Rattle.std.proofs.Common.{◌≡◌, false, map, take}
use Rattle.resource_docs.specs.Causes.{repeats_value}
use Rattle.resource_docs.specs.Keys.{value_of_key}
use Rattle.resource_docs.proofs.repeats.repeats_value.Given as goal

abbrev pub invariant-values : goal.invariant-values
invariant-values l =
    record {
      keys : map value_of_key l.keys.keys ≡ take l.value-index l.values;
      none : repeats_value (take l.value-index l.values) ≡ false;
    }
