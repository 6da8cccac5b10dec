-- What the tables of a resolver hold.
use Rattle.std.specs.Prelude.{◌≡◌, IsTrue, map}
use Rattle.mm_types.specs.Raw.{RawMetamodel, is_within_limits}
use Rattle.mm_types.specs.Resolved.{own_of}
use Rattle.mm_meta.specs.NameTable.{AreTablesOf, IsTableOf}
use Rattle.mm_meta.specs.declared.resolver.Resolver.TheInside.{Inside}

-- the metamodel document that is resolved
abbrev pub resolves : Inside → RawMetamodel
resolves r = record { enums = r.enums.now; classes = r.classes.now }

pub record IsResolver (r : Inside) : Type 0 where
  pub fits : IsTrue (is_within_limits (resolves r))
  pub finds_enums : IsTableOf r.enum_table (map (λ e. e.name) r.enums.now)
  pub finds_classes : IsTableOf r.class_table (map (λ c. c.name) r.classes.now)
  pub finds_literals : AreTablesOf r.literal_tables.items (map (λ e. e.literals) r.enums.now)
  pub finds_own : AreTablesOf r.own_tables.items (map (λ c. map (λ f. f.name) c.features) r.classes.now)
  pub own_is : r.own.items ≡ own_of r.classes.now
