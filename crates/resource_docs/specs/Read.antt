-- What a document is read as, if no cause of refusal applies.
use Rattle.std.specs.Prelude.{ℕ, not, List, [], filter, filter_map, flat_map, map, Option, option_map, slice_get, unwrap_or, if◌then◌else◌}
use Rattle.std.specs.List.{All, enumerate_from}
use Rattle.std.specs.Option.{option_map_or}
use Rattle.serde_json.specs.Data.{Data}
use Rattle.mm_types.specs.Lookups as lookups
use Rattle.mm_types.specs.Resolved.{Metamodel}
use Rattle.mm_types.specs.Same.{is_nil, same_feature}
use Rattle.mm_types.specs.declared.numbers.FeatureNo.{FeatureNo}
use Rattle.mm_types.specs.declared.numbers.ObjectNo.{ObjectNo}
use Rattle.mm_types.specs.declared.value.Value.{Value}
use Rattle.web_uris.specs.declared.path.Path.{Path}
use Rattle.resource_docs.specs.declared.doc.Doc.{Doc}
use Rattle.resource_docs.specs.declared.doc.DocObject.{DocObject}
use Rattle.resource_docs.specs.declared.doc.Content.{Content}
use Rattle.doc_parts.specs.Parts.{Entry, Part, class_of, entries, number_of, parts, root_parts, values_of}
use Rattle.resource_docs.specs.Texts.{Base}
use Rattle.resource_docs.specs.Values.{OfProxy, value_of}

abbrev pub values_read : Metamodel → Base → List Part → Path → Entry → List Value
values_read m b ps path e =
    option_map_or (λ g. filter_map (value_of m b ps path e.feature g.kind) (enumerate_from 0 (values_of m e))) (lookups.feature m e.feature) []

abbrev pub content_read : Metamodel → Base → List Part → Path → Entry → Content
content_read m b ps path e = record { feature = e.feature; values = values_read m b ps path e }

-- the contents of an object; a feature without values is left out, for example a list that is written as an empty array
abbrev pub contents_read : Metamodel → Base → List Part → Path → List Entry → List Content
contents_read m b ps path es = filter (λ c. not (is_nil c.values)) (map (content_read m b ps path) es)

abbrev pub object_read : Metamodel → Base → List Part → Part → DocObject
object_read m b ps p =
    record {
      class = unwrap_or (class_of m p.json) (record { 0 = 0 });
      contents = contents_read m b ps p.path (entries m p.json);
    }

abbrev pub root_number : List Part → Path → Option ObjectNo
root_number ps path = option_map (λ n. record { 0 = n }) (number_of ps path)

-- the objects in loading order, and the numbers of the roots among them
unfoldable pub doc_read : Metamodel → Base → Data → Doc
doc_read m b d =
    let ps = parts m d in
    record {
      objects = map (object_read m b ps) ps;
      roots = filter_map (λ p. root_number ps p.path) (root_parts d);
    }

---------------------------------------------------------------- ends of a document

abbrev pub values_under : DocObject → FeatureNo → List Value
values_under o f = flat_map (λ c. if same_feature f c.feature then c.values else []) o.contents

-- the values of a document under a feature of an object
abbrev pub values_in : Doc → ObjectNo → FeatureNo → List Value
values_in d o f = option_map_or (λ x. values_under x f) (slice_get d.objects o.0) []

---------------------------------------------------------------- proxies

-- `Holds` is true of the text of each proxy of a document
abbrev pub OfDocProxies : (List ℕ → Type 0) → Doc → Type 0
OfDocProxies Holds doc = All (λ (o : DocObject). All (λ (c : Content). All (OfProxy Holds) c.values) o.contents) doc.objects
