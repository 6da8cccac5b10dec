-- A resource as a document, which names the objects of the resource by their indexes in loading order, and other objects by their
-- addresses.
use Rattle.std.specs.Prelude.{List, [], map, position, unwrap_or}
use Rattle.std.specs.Option.{option_map_or}
use Rattle.mm_types.specs.Same.{same_object}
use Rattle.mm_types.specs.declared.numbers.FeatureNo.{FeatureNo}
use Rattle.mm_types.specs.declared.numbers.ObjectNo.{ObjectNo}
use Rattle.mm_types.specs.declared.numbers.ResourceNo.{ResourceNo}
use Rattle.mm_types.specs.declared.numbers.Node.TheVariants as node
use Rattle.mm_types.specs.declared.value.Value.{Value}
use Rattle.mm_types.specs.declared.value.Value.TheVariants as value
use Rattle.models.specs.Reading.{Reading, at_end}
use Rattle.fragment_paths.specs.Finding.{roots}
use Rattle.fragment_paths.specs.Fragments.{address}
use Rattle.doc_writer.specs.Written.{objects_in, written_features}
use Rattle.resource_docs.specs.declared.doc.Content.{Content}
use Rattle.resource_docs.specs.declared.doc.Doc.{Doc}
use Rattle.resource_docs.specs.declared.doc.DocObject.{DocObject}

-- a value as the document has it; os are the objects of the resource in loading order. An object of the resource is named by its index in
-- os, any other object becomes a proxy with its address (empty if it has none), and any other value stays as it is
abbrev pub renamed_value : Reading → List ObjectNo → Value → Value
renamed_value r os (value.Object o) =
    option_map_or (λ n. value.Object (record { 0 = n })) (position (same_object o) os) (value.Proxy (unwrap_or (address r o) []))
renamed_value r os v = v

abbrev pub content_copied : Reading → List ObjectNo → ObjectNo → FeatureNo → Content
content_copied r os o f = record { feature = f; values = map (renamed_value r os) (r.values (at_end (node.Object o) f)) }

abbrev pub object_copied : Reading → List ObjectNo → ObjectNo → DocObject
object_copied r os o =
    record { class = unwrap_or (r.class o) (record { 0 = 0 }); contents = map (content_copied r os o) (written_features r o) }

abbrev pub root_copied : List ObjectNo → ObjectNo → ObjectNo
root_copied os o = record { 0 = unwrap_or (position (same_object o) os) 0 }

unfoldable pub copied_document : Reading → ResourceNo → Doc
copied_document r k =
    let os = objects_in r k in
    record { objects = map (object_copied r os) os; roots = map (root_copied os) (roots r k) }
