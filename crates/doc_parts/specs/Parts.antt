-- Which parts of a document are looked at. A part is the data at a position at which an object is expected, with the path of this position.
-- Nothing is looked at in an object of an unknown class, under an unknown feature or under a container reference.
use Rattle.std.specs.Prelude.{ℕ, zero, suc, length, List, [], ◌∷◌, filter_map, flat_map, map, position, Option, Some, None, option_map, unwrap_or, if◌then◌else◌}
use Rattle.std.specs.List.{enumerate_from}
use Rattle.std.specs.Option.{option_map_or}
use Rattle.serde_json.specs.Data.{Data, Items, no_items, item, Members, depth}
use Rattle.serde_json.specs.Find.{as_array, get_member}
use Rattle.json_fields.specs.Fields.{◌>>=◌}
use Rattle.mm_types.specs.Lookups as lookups
use Rattle.mm_types.specs.Resolved.{Metamodel}
use Rattle.mm_types.specs.Shapes.{is_containment, shape}
use Rattle.mm_types.specs.declared.numbers.ClassNo.{ClassNo}
use Rattle.mm_types.specs.declared.numbers.FeatureNo.{FeatureNo}
use Rattle.web_uris.specs.Paths.{new_path, new_step, same_path, with_step}
use Rattle.web_uris.specs.declared.path.Path.{Path}
use Rattle.web_uris.specs.declared.path.Step.{Step}
use Rattle.doc_parts.specs.Layout.{top, written_object}

abbrev pub list_of : Items → List Data
list_of no_items = []
list_of (item d ds) = d ∷ list_of ds

---------------------------------------------------------------- under an object

-- the class that an object names; none if the data lacks the layout of an object, or if no class has the name
abbrev pub class_of : Metamodel → Data → Option ClassNo
class_of m d = written_object d >>= (λ w. lookups.class_by_name m w.class)

-- a feature, and the data that is written under it
pub record Entry : Type 0 where
  pub feature : FeatureNo
  pub content : Data

abbrev pub new_entry : FeatureNo → Data → Entry
new_entry f d = record { feature = f; content = d }

-- the content that is written under a feature; none if no content is written, or if the feature is a container reference
abbrev pub content_at : Metamodel → Members → FeatureNo → Option Data
content_at m ms f = if lookups.is_container m f then None else get_member (lookups.feature_name m f) ms

abbrev pub entry_at : Metamodel → Members → FeatureNo → Option Entry
entry_at m ms f = option_map (new_entry f) (content_at m ms f)

abbrev pub entries_in : Metamodel → ClassNo → Members → List Entry
entries_in m c ms = filter_map (entry_at m ms) (unwrap_or (lookups.features m c) [])

-- the class of an object and the members under its key `features`; none if the data lacks the layout of an object, or if no class has the
-- name that the object gives
abbrev pub class_and_members : Metamodel → Data → Option (ClassNo × Members)
class_and_members m d = written_object d >>= (λ w. option_map (λ c. (c, w.features)) (lookups.class_by_name m w.class))

-- the contents of an object, in the order of all features of its class; no contents if the data lacks the layout of an object, or if the
-- object's class is unknown
abbrev pub entries : Metamodel → Data → List Entry
entries m d = option_map_or (λ k. entries_in m k.0 k.1) (class_and_members m d) []

-- the values of a content: for a single feature, the content itself; for a many-valued feature, the items of the array, or no values if the
-- content is no array
abbrev pub values_of : Metamodel → Entry → List Data
values_of m e =
    if (shape m e.feature).is_single then e.content ∷ [] else option_map_or list_of (as_array e.content) []

---------------------------------------------------------------- objects in objects

-- data where an object is expected, and its path
pub record Part : Type 0 where
  pub path : Path
  pub json : Data

-- a root is at level 1
abbrev pub level_of : Part → ℕ
level_of p = suc (length p.path.steps)

-- the step to the value at position i of the feature f; if f is single, the step has no index
abbrev pub step_to : Metamodel → FeatureNo → ℕ → Step
step_to m f i = new_step (lookups.feature_name m f) (if (shape m f).is_single then None else Some i)

abbrev pub parts_in : Metamodel → Path → Entry → List Part
parts_in m p e =
    if is_containment m e.feature
    then map (λ v. record { path = with_step p (step_to m e.feature v.0); json = v.1 }) (enumerate_from 0 (values_of m e))
    else []

-- a part and the parts in it, at most a given number of levels in all; each part comes before the parts in it
abbrev pub parts_from : Metamodel → ℕ → Part → List Part
parts_from m zero p = []
parts_from m (suc n) p = p ∷ flat_map (parts_from m n) (flat_map (parts_in m p.path) (entries m p.json))

abbrev pub root_parts : Data → List Part
root_parts d =
    option_map_or (λ t. map (λ v. record { path = new_path v.0 []; json = v.1 }) (enumerate_from 0 (list_of t.roots))) (top d) []

-- all parts of a document, in loading order; the level of a part is at most the depth to which the JSON values of the document nest, so
-- `depth d` levels are enough
unfoldable pub parts : Metamodel → Data → List Part
parts m d = flat_map (parts_from m (depth d)) (root_parts d)

-- the number that each part with a given path has, which is the index of the first part with this path; none if no part has the path
abbrev pub number_of : List Part → Path → Option ℕ
number_of ps p = position (λ q. same_path p q.path) ps
