-- What the tables of a metamodel hold.
use Rattle.std.specs.Prelude.{◌≡◌, ◌∷◌, [], map}
use Rattle.mm_types.specs.OfDocument.{IsOfDocument}
use Rattle.mm_types.specs.Resolved.{Metamodel}
use Rattle.mm_types.specs.Lookups.{contents, supertypes}
use Rattle.mm_types.specs.declared.value.Value.TheVariants.{Null}
use Rattle.mm_graph.specs.ConformTable.{IsConformTable}
use Rattle.mm_meta.specs.Containments.{AreContainments}
use Rattle.mm_meta.specs.FeatureNames.{AreFeatureNames, AreRows}
use Rattle.mm_meta.specs.NameTable.{AreTablesOf, IsTableOf}
use Rattle.mm_meta.specs.declared.meta.Meta.TheInside.{Inside}

-- the resolved metamodel
abbrev pub metamodel : Inside → Metamodel
metamodel m = record { enums = m.enums; classes = m.classes; features = m.features }

pub record IsMeta (m : Inside) : Type 0 where
  pub of_document : IsOfDocument (metamodel m)
  pub conforms : IsConformTable (supertypes (metamodel m)) m.conformance
  pub finds_classes : IsTableOf m.class_table (map (λ c. c.name) m.classes)
  pub finds_literals : AreTablesOf m.literal_tables.items (map (λ e. e.literals) m.enums)
  pub finds_features : AreFeatureNames m.names (map (λ f. f.name) m.features)
  pub finds_common : AreRows (metamodel m) m.common.items
  pub finds_containments : AreContainments (metamodel m) m.containments.items
  pub null : m.null ≡ Null
  pub contents : m.contents ≡ contents (metamodel m) ∷ []
