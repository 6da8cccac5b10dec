-- What a document resolves to.
use Rattle.std.specs.Prelude.{◌≡◌, ◌<◌, ℕ, List, length}
use Rattle.mm_types.specs.Features.{all_features}
use Rattle.mm_types.specs.Graph.{by_class}
use Rattle.mm_types.specs.Raw.{RawMetamodel}
use Rattle.mm_types.specs.declared.raw.RawClass.{RawClass}
use Rattle.mm_types.specs.Resolved.{classes_from, features_from, graph_of, own_of}
use Rattle.mm_graph.specs.ConformTable.{IsConformTable}
use Rattle.mm_meta.specs.declared.resolution.Resolution.{Resolution}

-- at the number of each class, rows has the numbers of all features of the class, own and inherited
abbrev pub AreFeaturesOf : List RawClass → List (List ℕ) → Type 0
AreFeaturesOf classes rows = (c : ℕ) → c < length classes → by_class rows c ≡ all_features (graph_of classes) (own_of classes) c

-- the classes and features of a document by number, and which classes conform to which
pub record IsResolutionOf (raw : RawMetamodel) (r : Resolution) : Type 0 where
  pub classes : r.classes ≡ classes_from raw.classes 0 raw.classes
  pub features : r.features ≡ features_from raw 0 raw.classes
  pub conformance : IsConformTable (graph_of raw.classes) r.conformance
