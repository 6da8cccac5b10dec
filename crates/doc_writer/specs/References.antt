-- The features by which objects refer to other objects.
use Rattle.std.specs.Prelude.{◌≡◌, ◌&&◌, Bool, filter, not, Option, option_and_then, unwrap_or, []}
use Rattle.mm_types.specs.Lookups as lookups
use Rattle.mm_types.specs.Resolved.{Metamodel}
use Rattle.mm_types.specs.Shapes.{is_containment, shape}
use Rattle.mm_types.specs.declared.numbers.ClassNo.{ClassNo}
use Rattle.mm_types.specs.declared.numbers.FeatureNo.{FeatureNo}
use Rattle.doc_writer.specs.Written.{is_writable}
use Rattle.doc_writer.specs.declared.class_references.ClassReferences.{ClassReferences}

-- whether objects may refer to other objects by a feature: whether the feature is a reference, but neither a containment nor a container
-- reference
abbrev pub may_refer : Metamodel → FeatureNo → Bool
may_refer m f = (shape m f).is_reference && (not (is_containment m f) && is_writable m f)

-- r is made for the class c, and has the features of c by which objects may refer to other objects; without a class, r has no features
abbrev pub IsReferencesOf : Metamodel → Option ClassNo → ClassReferences → Type 0
IsReferencesOf m c r = (r.class ≡ c) × (r.features.items ≡ filter (may_refer m) (unwrap_or (option_and_then (lookups.features m) c) []))

-- r has the features by which objects of the class `r.class` may refer to other objects (`IsReferencesOf`)
abbrev pub IsReferences : Metamodel → ClassReferences → Type 0
IsReferences m r = IsReferencesOf m r.class r
