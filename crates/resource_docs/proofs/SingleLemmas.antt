-- The value of a single attribute is read exactly if its content is of its type.
use Rattle.std.proofs.Common.{◌≡◌, ◌∙◌, arith, true, false, List, [], ◌∷◌, Option, Some, None, ap, length, refl, sym}
use Rattle.std.specs.Prelude.{◌&&◌, ◌||◌, ◌==◌, is_some, not, if◌then◌else◌}
use Rattle.std.specs.List.{cons_option, enumerate_from, filter_map, list_all}
use Rattle.std.specs.Option.{option_map_or}
use Rattle.std.proofs.lemmas.Bool.{true≢false}
use Rattle.std.proofs.lemmas.Bool.Decides.{nat_tests}
use Rattle.std.proofs.Math.Bool.{and-true}
use Rattle.serde_json.specs.Data.{Data}
use Rattle.serde_json.specs.Find.{as_array}
use Rattle.mm_types.specs.Lookups as lookups
use Rattle.mm_types.specs.Resolved.{Metamodel}
use Rattle.mm_types.specs.Same.{is_nil}
use Rattle.mm_types.specs.Shapes.{contents_shape, shape, shape_of}
use Rattle.mm_types.specs.declared.feature.Feature.{Feature}
use Rattle.mm_types.specs.declared.feature.Kind.{Kind}
use Rattle.mm_types.specs.declared.feature.Kind.TheVariants.{Attribute, Reference}
use Rattle.mm_types.specs.declared.numbers.FeatureNo.{FeatureNo}
use Rattle.mm_types.specs.declared.value.Value.{Value}
use Rattle.web_uris.specs.declared.path.Path.{Path}
use Rattle.doc_parts.specs.Contents.{attribute_value, is_content, is_value}
use Rattle.doc_parts.specs.Parts.{Part, list_of, new_entry, values_of}
use Rattle.resource_docs.specs.Read.{values_read}
use Rattle.resource_docs.specs.Texts.{Base}
use Rattle.resource_docs.specs.Values.{value_of}

pub empty_is : (vs : List Value) → (length vs == 0) ≡ is_nil vs
empty_is [] = refl
empty_is (v ∷ vs) = grind (arith, nat_tests)

one_there : (o : Option Value) → not (is_nil (cons_option o [])) ≡ is_some o
one_there None = refl
one_there (Some v) = refl

module _ (m : Metamodel) (b : Base) (ps : List Part) (path : Path) (f : FeatureNo) (d : Data) (single : (shape m f).is_single ≡ true) where
  pub one_value_of : values_of m (new_entry f d) ≡ d ∷ []
  one_value_of = ap (λ x. if x then d ∷ [] else option_map_or list_of (as_array d) []) single

  attribute_there : (g : Feature) (k : Kind) → (shape_of m f g k).is_reference ≡ false → not (is_nil (filter_map (value_of m b ps path f k) (enumerate_from 0 (d ∷ [])))) ≡ list_all (is_value m true k) (d ∷ [])
  attribute_there g (Attribute t unique unsettable default) plain =
      one_there (attribute_value m (shape m f).is_single t d) ∙ ap (λ x. is_some (attribute_value m x t d)) single ∙ sym (and-true (is_some (attribute_value m true t d)))
  attribute_there g (Reference target containment opposite) plain = absurd (true≢false plain)

  pub single_read : (shape m f).is_reference ≡ false → not (is_nil (values_read m b ps path (new_entry f d))) ≡ is_content m (new_entry f d)
  single_read plain =
      elim (lookups.feature m f) as (λ o. lookups.feature m f ≡ o → not (is_nil (option_map_or (λ g. filter_map (value_of m b ps path f g.kind) (enumerate_from 0 (values_of m (new_entry f d)))) o []))
      ≡ ((shape m f).is_single || is_some (as_array d)) && option_map_or (λ g. list_all (is_value m (shape m f).is_single g.kind) (values_of m (new_entry f d))) o false) [
        | None ↦ λ none. absurd (true≢false (sym (ap (λ o. (option_map_or (λ g. shape_of m f g g.kind) o (contents_shape m)).is_reference) none) ∙ plain))
        | Some g ↦ λ some.
            ap (λ vs. not (is_nil (filter_map (value_of m b ps path f g.kind) (enumerate_from 0 vs)))) one_value_of
            ∙ attribute_there g g.kind (sym (ap (λ o. (option_map_or (λ h. shape_of m f h h.kind) o (contents_shape m)).is_reference) some) ∙ plain)
            ∙ sym (ap (λ x. (x || is_some (as_array d)) && list_all (is_value m x g.kind) (values_of m (new_entry f d))) single ∙ ap (λ vs. list_all (is_value m true g.kind) vs) one_value_of)
      ] refl
