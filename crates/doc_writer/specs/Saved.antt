-- Why a resource can't be saved: the first of two conditions that applies to at least one of its objects.
use Rattle.std.specs.Prelude.{◌≡◌, ◌≤◌, ℕ, ◌&&◌, Bool, not, List, filter, nat_lt, Option, Some, None, is_some, Result, Ok, Err, MatchBool, true, false, String, string_bytes}
use Rattle.std.specs.List.{list_any}
use Rattle.std.specs.declared.alloc.Global.{Global}
use Rattle.serde_json.specs.Data.{depth}
use Rattle.serde_json.specs.Read.{max_depth, read}
use Rattle.mm_types.specs.Conditions.{◌where_so◌, ◌else_by◌, is_memory_refusal}
use Rattle.mm_types.specs.Shapes.{is_containment}
use Rattle.mm_types.specs.declared.limits.TheConstants.{LEVELS}
use Rattle.mm_types.specs.declared.numbers.FeatureNo.{FeatureNo}
use Rattle.mm_types.specs.declared.numbers.ObjectNo.{ObjectNo}
use Rattle.mm_types.specs.declared.numbers.ResourceNo.{ResourceNo}
use Rattle.mm_types.specs.declared.numbers.Node.TheVariants as node
use Rattle.mm_types.specs.declared.refused.Refused.{Refused}
use Rattle.mm_types.specs.declared.refused.Refused.TheVariants.{Dangling, TooDeep}
use Rattle.models.specs.Reading.{Reading, at_end, objects_of}
use Rattle.containment.specs.Above.{resource_of}
use Rattle.doc_writer.specs.Document.{document, saved_text}
use Rattle.doc_writer.specs.Written.{is_written, level, objects_in, written_features}

-- the features of an object that are written and are no containments: the references by which the object refers to others, and attributes,
-- whose values are no objects
abbrev pub reference_features : Reading → ObjectNo → List FeatureNo
reference_features r o = filter (λ f. not (is_containment r.metamodel f)) (written_features r o)

abbrev pub targets_under : Reading → ObjectNo → FeatureNo → List ObjectNo
targets_under r o f = objects_of (r.values (at_end (node.Object o) f))

-- whether an object is in no resource
abbrev pub is_dangling : Reading → ObjectNo → Bool
is_dangling r o = not (is_some (resource_of r.above o))

-- whether a feature of an object is written and is no containment, and one of its values is an object that is in no resource
abbrev pub dangles_by : Reading → ObjectNo → FeatureNo → Bool
dangles_by r o f = is_written r o f && (not (is_containment r.metamodel f) && list_any (is_dangling r) (targets_under r o f))

-- whether an object refers by any of its `reference_features` to an object that is in no resource
abbrev pub has_dangling : Reading → ObjectNo → Bool
has_dangling r o = list_any (λ f. list_any (is_dangling r) (targets_under r o f)) (reference_features r o)

abbrev pub is_too_deep : Reading → ObjectNo → Bool
is_too_deep r o = nat_lt LEVELS (level r o)

abbrev pub save_refusal : Reading → ResourceNo → Option Refused
save_refusal r k =
    Dangling where_so list_any (has_dangling r) (objects_in r k) else_by
    TooDeep where_so list_any (is_too_deep r) (objects_in r k)

-- a text is read as the document of a resource, if this document is not too deep for the reader of JSON
abbrev pub IsReadAs : Reading → ResourceNo → List ℕ → Type 0
IsReadAs r k text = depth (document r k) ≤ max_depth → read text ≡ Some (document r k)

-- the result of writing a document: its text, the refusal, or `Memory`
abbrev pub Writes : Result (String Global) Refused → Reading → ResourceNo → Type 0
Writes (Ok text) r k = (save_refusal r k ≡ None) × (string_bytes text ≡ saved_text r k)
Writes (Err e) r k = MatchBool (is_memory_refusal e) (Unit {0}) (save_refusal r k ≡ Some e)
