use Rattle.std.proofs.Common.{map, take}
use Rattle.mm_meta.specs.NameTable.{AreTablesOf}
use Rattle.mm_meta.proofs.tables.literal_tables.Given as goal

abbrev pub invariant-enums : goal.invariant-enums
invariant-enums l = AreTablesOf l.tables.items (map (λ e. e.literals) (take l.e-index l.enums))
