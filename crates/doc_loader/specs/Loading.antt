-- What the load of a document makes: the objects of the document, their values, and their links and proxies. If the first object gets the
-- number n, the object with the number i in the document gets n + i. At each end a link has the position that the document says.
use Rattle.std.specs.Prelude.{ℕ, ◌+◌, ◌&&◌, Bool, List, [], ◌∷◌, ◌++◌, filter_map, flat_map, fold, map, position, Option, Some, None, unwrap_or, if◌then◌else◌}
use Rattle.std.specs.List.{enumerate_from}
use Rattle.std.specs.FinSet as set
use Rattle.mm_types.specs.Resolved.{Metamodel}
use Rattle.mm_types.specs.Same.{is_feature, is_nil, same_value}
use Rattle.mm_types.specs.Shapes.{Shape, shape}
use Rattle.mm_types.specs.declared.numbers.FeatureNo.{FeatureNo}
use Rattle.mm_types.specs.declared.numbers.ObjectNo.{ObjectNo}
use Rattle.mm_types.specs.declared.numbers.ResourceNo.{ResourceNo}
use Rattle.mm_types.specs.declared.numbers.Node.TheVariants as node
use Rattle.mm_types.specs.declared.end.End.{End}
use Rattle.mm_types.specs.declared.value.Value.{Value}
use Rattle.mm_types.specs.declared.value.Value.TheVariants as value
use Rattle.mm_values.specs.declared.value_edit.ValueEdit.{ValueEdit}
use Rattle.mm_values.specs.declared.value_edit.ValueEdit.TheVariants.{NewObject, PutList}
use Rattle.links.specs.declared.link.Far.TheVariants.{Alone, Proxy}
use Rattle.links.specs.declared.link.Link.{Link}
use Rattle.links.specs.Links.{Links, far_end, joined_link}
use Rattle.models.specs.Reading.{Reading, at_end, contents_end}
use Rattle.resource_docs.specs.declared.doc.Content.{Content}
use Rattle.resource_docs.specs.declared.doc.Doc.{Doc}
use Rattle.resource_docs.specs.declared.doc.DocObject.{DocObject}
use Rattle.resource_docs.specs.Read.{values_in}

-- the number that an object of a document gets, if the first object gets n
abbrev pub loaded_number : ℕ → ObjectNo → ObjectNo
loaded_number n o = record { 0 = n + o.0 }

-- a value of a document after the load: an object is named by the number that it gets, and any other value stays as it is
abbrev pub loaded_value : ℕ → Value → Value
loaded_value n (value.Object b) = value.Object (loaded_number n b)
loaded_value n v = v

abbrev pub roots_loaded : ℕ → Doc → List Value
roots_loaded n doc = map (λ o. value.Object (loaded_number n o)) doc.roots

-- the results of `make` for all contents of an object, in one list; x is the pair of the object's number in the document and the object
abbrev pub of_object : {X : Type 0} → (ObjectNo → Content → List X) → ℕ × DocObject → List X
of_object make x = flat_map (make (record { 0 = x.0 })) x.1.contents

-- the results of `make` for all contents of all objects of a document; `make` gets each content together with the number that the content's
-- object has in the document
abbrev pub of_contents : {X : Type 0} → (ObjectNo → Content → List X) → Doc → List X
of_contents make doc = flat_map (of_object make) (enumerate_from 0 doc.objects)

---------------------------------------------------------------- values

-- the edit that puts the values of a content, if the feature of the content is an attribute; a single unsettable attribute that the
-- document writes becomes set
abbrev pub attribute_edits : Metamodel → ℕ → ObjectNo → Content → List ValueEdit
attribute_edits m n o c =
    let a = shape m c.feature in
    if a.is_reference then [] else PutList (loaded_number n o) c.feature c.values (a.is_unsettable && a.is_single) ∷ []

abbrev pub loaded_values : Metamodel → ℕ → Doc → List ValueEdit
loaded_values m n doc = map (λ o. NewObject o.class) doc.objects ++ of_contents (attribute_edits m n) doc

---------------------------------------------------------------- links

-- the end of the feature f at the object o of the document; the end names o by the number that o gets
abbrev pub object_end : ℕ → ObjectNo → FeatureNo → End
object_end n o f = at_end (node.Object (loaded_number n o)) f

abbrev pub is_empty_resource : Reading → ResourceNo → Bool
is_empty_resource r k = is_nil (r.values (contents_end r.metamodel k))

-- The far position of a link from the object o, under the feature f, to the object b: the position of o among the values of b under g, the
-- opposite of f. If f is a containment, the position is 0, since an object has at most one container. Otherwise the position is the index
-- of o in the document's list of b under g, or 0 if that list lacks o. a is the shape of f.
abbrev pub far_index : Shape → Doc → ObjectNo → FeatureNo → ObjectNo → FeatureNo → ℕ
far_index a doc o f b g = if is_feature f a.containing then 0 else unwrap_or (position (same_value (value.Object o)) (values_in doc b g)) 0

-- the link from the object o to the object b, which is at index i under the feature f of o; o and b are the numbers that the objects have
-- in the document. The last argument is the opposite of f, or none
abbrev pub link_to : Metamodel → ℕ → Doc → ObjectNo → FeatureNo → ℕ → ObjectNo → Option FeatureNo → Link
link_to m n doc o f i b None = record { end = object_end n o f; index = i; far = Alone (loaded_number n b); container = (shape m f).containing }
link_to m n doc o f i b (Some g) =
    joined_link (object_end n o f) i (far_end (loaded_number n b) g) (far_index (shape m f) doc o f b g) (shape m f).containing

-- the link or the proxy for the value at the index i under the feature f of the object o; none if the value is no object and no proxy. If
-- the document has a link at both of its ends, the values at the two ends give the same link.
abbrev pub link_of : Metamodel → ℕ → Doc → ObjectNo → FeatureNo → ℕ × Value → Option Link
link_of m n doc o f (i, value.Object b) = Some (link_to m n doc o f i b (shape m f).opposite)
link_of m n doc o f (i, value.Proxy t) = Some (record { end = object_end n o f; index = i; far = Proxy t; container = None })
link_of m n doc o f (i, v) = None

abbrev pub content_links : Metamodel → ℕ → Doc → ObjectNo → Content → List Link
content_links m n doc o c = filter_map (link_of m n doc o c.feature) (enumerate_from 0 c.values)

abbrev pub root_link : Metamodel → ℕ → ResourceNo → ℕ × ObjectNo → Link
root_link m n k x =
    let e = contents_end m k in
    record { end = e; index = x.0; far = Alone (loaded_number n x.1); container = (shape m e.feature).containing }

abbrev pub loaded_links : Metamodel → ℕ → ResourceNo → Doc → List Link
loaded_links m n k doc = map (root_link m n k) (enumerate_from 0 doc.roots) ++ of_contents (content_links m n doc) doc

-- the set s with the links ls added; no position changes, neither in the links of s nor in the links ls
unfoldable pub with_links : Links → List Link → Links
with_links s ls = fold (λ t l. set.insert t l) s ls
