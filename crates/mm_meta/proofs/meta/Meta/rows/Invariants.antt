use Rattle.std.proofs.Common.{◌≡◌, length}
use Rattle.mm_meta.specs.FeatureNames.{AreRows}
use Rattle.mm_meta.proofs.meta.Meta.rows.Given as goal

abbrev pub invariant-features : goal.invariant-features
invariant-features l = record {
  long : length l.rows.items ≡ l.f;
  made : AreRows l.self l.rows.items;
}
