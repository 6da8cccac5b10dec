use Rattle.std.proofs.Common.{◌≡◌, ◌≤◌, ◌*◌, ◌++◌, drop}
use Rattle.mm_types.specs.Resolved.{own_from}
use Rattle.mm_meta.proofs.tables.own_numbers.Given as goal

abbrev pub invariant-classes : goal.invariant-classes
invariant-classes l = record {
  made : l.rows.items ++ own_from l.next (drop l.class-index l.classes) ≡ own_from 0 l.classes;
  low : l.next ≤ 256 * l.class-index;
}
