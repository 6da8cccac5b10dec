-- Whether the value that is written under a feature is of its type, by the parts of this test.
use Rattle.std.proofs.Common.{◌≡◌, ◌∙◌, ◌∷◌, [], Bool, true, false, List, Option, Some, ap, map, sym}
use Rattle.std.specs.Prelude.{◌&&◌, ◌||◌, is_some, if◌then◌else◌}
use Rattle.std.specs.List.{list_all}
use Rattle.std.specs.Option.{option_map_or}
use Rattle.serde_json.specs.Data.{Data, Items}
use Rattle.serde_json.specs.Find.{as_array}
use Rattle.serde_json.specs.View.{items_of}
use Rattle.borrowed_json.specs.View.{view}
use Rattle.borrowed_json.specs.declared.value.Json.{Json}
use Rattle.mm_types.specs.Lookups as lookups
use Rattle.mm_types.specs.Resolved.{Metamodel}
use Rattle.mm_types.specs.Shapes.{shape}
use Rattle.mm_types.specs.declared.feature.Feature.{Feature}
use Rattle.mm_types.specs.declared.numbers.FeatureNo.{FeatureNo}
use Rattle.doc_parts.specs.Contents.{is_content, is_value}
use Rattle.doc_parts.specs.Parts.{Entry, list_of, new_entry, values_of}
use Rattle.doc_parts.proofs.DataLemmas.{list_all-map, list_of-items_of}

abbrev by_parts : Metamodel → Bool → Bool → List Data → Option Feature → Bool
by_parts m single array vs found = (single || array) && option_map_or (λ g. list_all (is_value m single g.kind) vs) found false

pub content_by_parts : (m : Metamodel) (e : Entry) (single : Bool) (g : Feature) (vs : List Json) (b : Bool) → single ≡ (shape m e.feature).is_single → single || is_some (as_array e.content) ≡ true
    → Some g ≡ lookups.feature m e.feature → map view vs ≡ values_of m e → b ≡ list_all (λ v. is_value m single g.kind (view v)) vs → b ≡ is_content m e
content_by_parts m e single g vs b is shaped found values h =
    h ∙ sym (list_all-map view (is_value m single g.kind) vs)
    ∙ ap (λ x. x && list_all (is_value m single g.kind) (map view vs)) (sym shaped)
    ∙ ap (λ ds. by_parts m single (is_some (as_array e.content)) ds (Some g)) values
    ∙ ap (λ o. by_parts m single (is_some (as_array e.content)) (values_of m e) o) found
    ∙ ap (λ s. by_parts m s (is_some (as_array e.content)) (values_of m e) (lookups.feature m e.feature)) is

abbrev values_by : Bool → Data → Option Items → List Data
values_by single d items = if single then d ∷ [] else option_map_or list_of items []

-- the values of a many-valued feature, which are an array
pub many_values : (m : Metamodel) (f : FeatureNo) (d : Data) (vs : List Json) → (shape m f).is_single ≡ false → Some (items_of (map view vs)) ≡ as_array d → map view vs ≡ values_of m (new_entry f d)
many_values m f d vs many array =
    sym (list_of-items_of (map view vs))
    ∙ ap (λ o. values_by false d o) array
    ∙ ap (λ b. values_by b d (as_array d)) (sym many)
