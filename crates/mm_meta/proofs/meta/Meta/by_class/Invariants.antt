use Rattle.std.proofs.Common.{◌≡◌, length}
use Rattle.mm_types.specs.Lookups.{feature_name}
use Rattle.mm_types.specs.Resolved.{feature_no}
use Rattle.mm_meta.specs.FeatureNames.{IsRow}
use Rattle.mm_meta.proofs.meta.Meta.by_class.Given as goal

abbrev pub invariant-classes : goal.invariant-classes
invariant-classes l = record {
  long : length l.by_class.items ≡ l.c;
  made : IsRow l.self (feature_name l.self (feature_no l.feature)) l.by_class.items;
}
