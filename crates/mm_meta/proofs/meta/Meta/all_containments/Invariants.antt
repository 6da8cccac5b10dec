use Rattle.std.proofs.Common.{◌≡◌, length}
use Rattle.mm_meta.specs.Containments.{AreContainments}
use Rattle.mm_meta.proofs.meta.Meta.all_containments.Given as goal

abbrev pub invariant-classes : goal.invariant-classes
invariant-classes l = record {
  long : length l.found.items ≡ l.c;
  made : AreContainments l.self l.found.items;
}
