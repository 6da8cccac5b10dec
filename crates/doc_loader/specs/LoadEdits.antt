-- The edits that make a document's links and proxies, in an order in which each link and proxy gets the position that the document says.
-- Two features are called a pair if they are opposites and neither is a containment. The feature with the lower number is the lower feature
-- of the pair; the feature with the higher number is the higher feature. First come the edits that put the roots. Then come the edits that
-- put the values of all references except the higher features: each value is put last into its list, so each list gets the order that it
-- has in the document. The edits for the lower features also put objects into the ends of the higher features. There the objects are in the
-- order of their numbers. If the document lists the objects at an end of a higher feature in a different order, the links of this end are
-- then cut, and put again in the order of that list. Each link keeps the position that it had at the end of the lower feature. The proxies
-- at the ends of the higher features come last: by then the objects at these ends are in the order in which the document lists them, so
-- each proxy can be put at its position.
use Rattle.std.specs.Prelude.{ℕ, suc, ◌&&◌, Bool, true, not, List, [], ◌∷◌, ◌++◌, flat_map, map, nat_le, is_some, if◌then◌else◌}
use Rattle.std.specs.List.{enumerate_from}
use Rattle.std.specs.Option.{option_map_or}
use Rattle.mm_types.specs.Resolved.{Metamodel}
use Rattle.mm_types.specs.Shapes.{shape}
use Rattle.mm_types.specs.declared.numbers.FeatureNo.{FeatureNo}
use Rattle.mm_types.specs.declared.numbers.ObjectNo.{ObjectNo}
use Rattle.mm_types.specs.declared.numbers.ResourceNo.{ResourceNo}
use Rattle.mm_types.specs.declared.end.End.{End}
use Rattle.mm_types.specs.declared.value.Value.{Value}
use Rattle.mm_types.specs.declared.value.Value.TheVariants as value
use Rattle.links.specs.declared.plan.Edit.{Edit}
use Rattle.links.specs.declared.plan.Edit.TheVariants.{Cut, PutProxy}
use Rattle.resource_docs.specs.declared.doc.Content.{Content}
use Rattle.resource_docs.specs.declared.doc.Doc.{Doc}
use Rattle.doc_loader.specs.Loading.{loaded_number, object_end, of_contents}
use Rattle.doc_loader.specs.Pairs.{is_near, lower_of}
use Rattle.doc_loader.specs.ListIndexes.{object_key, index_among}
use Rattle.doc_loader.specs.declared.passes.Pass.{Pass}
use Rattle.doc_loader.specs.declared.passes.Pass.TheVariants.{Near, Proxies}
use Rattle.models.specs.declared.reference_key.ReferenceKey.{ReferenceKey}
use Rattle.models.specs.Reading.{contents_end}
use Rattle.links.specs.Plans.{put_of}

-- the edit that puts an object of the document at a position of an end
abbrev pub put_at : Metamodel → ℕ → End → ℕ → ObjectNo → Edit
put_at m n e i b = put_of e i (loaded_number n b) (shape m e.feature).opposite (shape m e.feature).containing

abbrev pub root_puts : Metamodel → ℕ → ResourceNo → Doc → List Edit
root_puts m n k doc = map (λ x. put_at m n (contents_end m k) x.0 x.1) (enumerate_from 0 doc.roots)

---------------------------------------------------------------- references that are not the higher feature of a pair

-- the edit that puts a value at a position; none if the value is no object and no proxy
abbrev pub value_puts : Metamodel → ℕ → End → ℕ × Value → List Edit
value_puts m n e (i, value.Object b) = put_at m n e i b ∷ []
value_puts m n e (i, value.Proxy t) = PutProxy e i t ∷ []
value_puts m n e (i, v) = []

abbrev pub near_edits : Metamodel → ℕ → ObjectNo → Content → List Edit
near_edits m n o c =
    if is_near (shape m c.feature) c.feature then flat_map (value_puts m n (object_end n o c.feature)) (enumerate_from 0 c.values) else []

---------------------------------------------------------------- the higher feature of each pair

-- whether the numbers of the objects among some values go up, and none is below k
abbrev pub is_ascending_from : ℕ → List Value → Bool
is_ascending_from k [] = true
is_ascending_from k (value.Object a ∷ vs) = nat_le k a.0 && is_ascending_from (suc a.0) vs
is_ascending_from k (v ∷ vs) = is_ascending_from k vs

-- If the value is an object a: the edits that cut the link between a and the object b, and put the link again. The link is at the end of a
-- under f, the lower feature of the pair. In the list of a under f, b gets the index that `index_of` gives. In the list of b under the
-- higher feature, a becomes the last value. No edits if the value is no object.
abbrev pub puts_again : Metamodel → ℕ → (ReferenceKey → ℕ) → ObjectNo → FeatureNo → Value → List Edit
puts_again m n index_of b f (value.Object a) =
    let e = object_end n a f in
    Cut e (value.Object (loaded_number n b)) ∷ put_at m n e (index_of (object_key a f b)) b ∷ []
puts_again m n index_of b f v = []

abbrev pub in_order : Metamodel → ℕ → (ReferenceKey → ℕ) → ObjectNo → List Value → FeatureNo → List Edit
in_order m n index_of b vs f = if is_ascending_from 0 vs then [] else flat_map (puts_again m n index_of b f) vs

-- whether the feature of a content is the higher feature of a pair
abbrev pub is_higher : Metamodel → Content → Bool
is_higher m c = is_some (lower_of (shape m c.feature) c.feature)

-- whether the feature of a content is the higher feature of a pair, and the objects of the content are not in the order of their numbers
-- (`is_ascending_from`)
abbrev pub is_unordered : Metamodel → Content → Bool
is_unordered m c = is_some (lower_of (shape m c.feature) c.feature) && not (is_ascending_from 0 c.values)

abbrev pub far_edits : Metamodel → ℕ → (ReferenceKey → ℕ) → ObjectNo → Content → List Edit
far_edits m n index_of b c = option_map_or (in_order m n index_of b c.values) (lower_of (shape m c.feature) c.feature) []

-- the edit that puts a proxy at its position; none if the value is no proxy
abbrev pub proxy_puts : End → ℕ × Value → List Edit
proxy_puts e (i, value.Proxy t) = PutProxy e i t ∷ []
proxy_puts e (i, v) = []

abbrev pub proxy_edits : Metamodel → ℕ → ObjectNo → Content → List Edit
proxy_edits m n o c =
    if is_some (lower_of (shape m c.feature) c.feature) then flat_map (proxy_puts (object_end n o c.feature)) (enumerate_from 0 c.values) else []

---------------------------------------------------------------- all

-- the edits that a pass makes for one content
abbrev pub pass_edits : Pass → Metamodel → ℕ → ObjectNo → Content → List Edit
pass_edits Near = near_edits
pass_edits Proxies = proxy_edits

abbrev pub load_edits : Metamodel → ℕ → ResourceNo → Doc → List Edit
load_edits m n k doc =
    root_puts m n k doc
    ++ (of_contents (near_edits m n) doc ++ (of_contents (far_edits m n (index_among m doc.objects)) doc ++ of_contents (proxy_edits m n) doc))
