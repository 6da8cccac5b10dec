use Rattle.std.proofs.Common.{map, take}
use Rattle.mm_meta.specs.NameTable.{IsTableOf}
use Rattle.mm_meta.proofs.name_table.NameTable.of.Given as goal

abbrev pub invariant-items : goal.invariant-items
invariant-items g l = IsTableOf l.table (map g.T.Named.name (take l.i l.items))
