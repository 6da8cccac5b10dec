use Rattle.std.proofs.Common.{map, take}
use Rattle.mm_meta.specs.NameTable.{AreTablesOf}
use Rattle.mm_meta.proofs.tables.own_tables.Given as goal

abbrev pub invariant-classes : goal.invariant-classes
invariant-classes l = AreTablesOf l.tables.items (map (λ c. map (λ f. f.name) c.features) (take l.class-index l.classes))
