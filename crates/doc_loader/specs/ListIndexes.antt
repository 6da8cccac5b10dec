-- The indexes of objects in the lists that a document has under the lower features of pairs (`LoadEdits`). The edits of a load need no
-- other indexes.
use Rattle.std.specs.Prelude.{ℕ, List, [], ◌∷◌, flat_map, Option, Some, None, unwrap_or, if◌then◌else◌}
use Rattle.std.specs.List.{enumerate_from}
use Rattle.std.specs.Option.{option_or}
use Rattle.indexmap.specs.IndexMap.{get}
use Rattle.mm_types.specs.Resolved.{Metamodel}
use Rattle.mm_types.specs.Shapes.{shape}
use Rattle.mm_types.specs.declared.numbers.FeatureNo.{FeatureNo}
use Rattle.mm_types.specs.declared.numbers.ObjectNo.{ObjectNo}
use Rattle.mm_types.specs.declared.value.Value.{Value}
use Rattle.mm_types.specs.declared.value.Value.TheVariants as value
use Rattle.models.specs.ReferenceKeys.{reference_key, same_reference_key}
use Rattle.resource_docs.specs.declared.doc.Content.{Content}
use Rattle.resource_docs.specs.declared.doc.DocObject.{DocObject}
use Rattle.doc_loader.specs.Loading.{of_object}
use Rattle.doc_loader.specs.Pairs.{is_lower}
use Rattle.models.specs.declared.reference_key.ReferenceKey.{ReferenceKey}
use Rattle.doc_loader.specs.declared.indexes.ListIndexes.{ListIndexes}

-- the key for the object b in the list of the object o under the feature f
abbrev pub object_key : ObjectNo → FeatureNo → ObjectNo → ReferenceKey
object_key o f b = reference_key o f b.0

-- for the value at index i under the feature f of the object o: if the value is an object, its key together with i; else nothing
abbrev pub key_and_index : ObjectNo → FeatureNo → ℕ × Value → List (ReferenceKey × ℕ)
key_and_index o f (i, value.Object b) = (object_key o f b, i) ∷ []
key_and_index o f (i, v) = []

-- the keys and indexes of the objects in a content, if the content's feature is the lower feature of a pair; else nothing, since no other
-- indexes are needed
abbrev pub content_indexes : Metamodel → ObjectNo → Content → List (ReferenceKey × ℕ)
content_indexes m o c =
    if is_lower (shape m c.feature) c.feature then flat_map (key_and_index o c.feature) (enumerate_from 0 c.values) else []

abbrev pub all_indexes : Metamodel → List DocObject → List (ReferenceKey × ℕ)
all_indexes m os = flat_map (of_object (content_indexes m)) (enumerate_from 0 os)

-- the index in the last entry for the reference key k, in a list of keys with their indexes; none if no entry is for k
abbrev pub last_index : List (ReferenceKey × ℕ) → ReferenceKey → Option ℕ
last_index [] k = None
last_index (x ∷ xs) k = option_or (last_index xs k) (if same_reference_key x.0 k then Some x.1 else None)

-- the index that the lists of a document have for the reference key k: the last one if there are several, and 0 if there is none; os are
-- the objects of the document
abbrev pub index_among : Metamodel → List DocObject → ReferenceKey → ℕ
index_among m os k = unwrap_or (last_index (all_indexes m os) k) 0

abbrev pub index_at : ListIndexes → ReferenceKey → Option ℕ
index_at p k = get same_reference_key p.indexes k

abbrev pub found_at : ListIndexes → ReferenceKey → ℕ
found_at p k = unwrap_or (index_at p k) 0
