-- For a containment reference its objects are written, if it has any.
use Rattle.std.proofs.Common.{◌≡◌, ◌∙◌, Bool, true, false, not, List, [], ◌∷◌, Option, Some, None, map, option_to_list, slice_get, refl, sym, ap, if◌then◌else◌}
use Rattle.std.specs.Prelude.{option_and_then, unwrap_or}
use Rattle.std.specs.List.{list_all}
use Rattle.std.specs.Option.{option_map_or}
use Rattle.std.proofs.lemmas.Bool.{false≢true}
use Rattle.serde_json.specs.Data.{Data, string}
use Rattle.mm_meta.proofs.ShapeLemmas.{opposites_are_pairs, shape_opposite}
use Rattle.mm_types.specs.Ends as ends
use Rattle.mm_types.specs.Ends.{shown_values, value_in}
use Rattle.mm_types.specs.Lookups as lookups
use Rattle.mm_types.specs.OfDocument.{IsOfDocument}
use Rattle.mm_types.specs.Resolved.{Metamodel}
use Rattle.mm_types.specs.Same.{is_nil, same_value}
use Rattle.mm_types.specs.Shapes.{Shape, contents_shape, is_containment, shape, shape_of}
use Rattle.mm_types.specs.declared.feature.Feature.{Feature}
use Rattle.mm_types.specs.declared.feature.Kind.{Kind}
use Rattle.mm_types.specs.declared.feature.Kind.TheVariants.{Attribute, Reference}
use Rattle.mm_types.specs.declared.numbers.FeatureNo.{FeatureNo}
use Rattle.mm_types.specs.declared.numbers.ObjectNo.{ObjectNo}
use Rattle.mm_types.specs.declared.numbers.ResourceNo.{ResourceNo}
use Rattle.mm_types.specs.declared.value.Value.{Value}
use Rattle.mm_types.specs.declared.value.Value.TheVariants as value
use Rattle.models.specs.Reading.{Reading, objects_of}
use Rattle.containment.proofs.PartLemmas.{contains-itself}
use Rattle.doc_writer.specs.Document.{reference_text, value_data}

---------------------------------------------------------------- references that contain

reference-kind : (m : Metamodel) (f : FeatureNo) (x : Feature) (k : Kind) → (shape_of m f x k).is_reference ≡ true → ((shape_of m f x k).is_unsettable ≡ false) × ((shape_of m f x k).default ≡ value.Null)
reference-kind m f x (Attribute t unique unsettable default) h = absurd (false≢true h)
reference-kind m f x (Reference target containment opposite) h = (refl, refl)

-- a reference is never unsettable, and has no default
pub reference-plain : (m : Metamodel) (f : FeatureNo) → (shape m f).is_reference ≡ true → ((shape m f).is_unsettable ≡ false) × ((shape m f).default ≡ value.Null)
reference-plain m f = by (lookups.feature m f)
  where
    by : (o : Option Feature) → (option_map_or (λ g. shape_of m f g g.kind) o (contents_shape m)).is_reference ≡ true
        → ((option_map_or (λ g. shape_of m f g g.kind) o (contents_shape m)).is_unsettable ≡ false) × ((option_map_or (λ g. shape_of m f g g.kind) o (contents_shape m)).default ≡ value.Null)
    by None h = (refl, refl)
    by (Some x) h = reference-kind m f x x.kind h

-- a containment is no container reference, since only one of two opposites is a containment
pub plain-containment : (m : Metamodel) → IsOfDocument m → (f : FeatureNo) → is_containment m f ≡ true → lookups.is_container m f ≡ false
plain-containment m d f contains =
    elim (lookups.opposite m f) as (λ x. lookups.opposite m f ≡ x → option_map_or (λ g. lookups.is_containment_kind g.kind) (option_and_then (lookups.feature m) x) false ≡ false) [
      | None ↦ λ _. refl
      | Some g ↦ λ opposite. one g (λ own. (let pair = opposites_are_pairs m d f g (shape_opposite m f ∙ opposite) in
          pair.apart (ap (λ (x : Option FeatureNo). (unwrap_or x f).0) (sym own ∙ sym pair.one_containing ∙ contains-itself f (shape m f).containing contains))))
    ] refl
  where
    by_kind : (g : FeatureNo) (x : Feature) (k : Kind) → ((shape_of m g x k).containing ≡ Some g → ⊥) → lookups.is_containment_kind k ≡ false
    by_kind g x (Attribute t unique unsettable default) none = refl
    by_kind g x (Reference target true opposite) none = absurd (none refl)
    by_kind g x (Reference target false opposite) none = refl

    one : (g : FeatureNo) → ((shape m g).containing ≡ Some g → ⊥) → option_map_or (λ x. lookups.is_containment_kind x.kind) (lookups.feature m g) false ≡ false
    one g = by (lookups.feature m g)
      where
        by : (o : Option Feature) → ((option_map_or (λ x. shape_of m g x x.kind) o (contents_shape m)).containing ≡ Some g → ⊥) → option_map_or (λ x. lookups.is_containment_kind x.kind) o false ≡ false
        by None none = refl
        by (Some x) none = by_kind g x x.kind none

---------------------------------------------------------------- when a containment is written

-- an end that has only objects is set if it has any
pub set-by : (a : Shape) (vs : List Value) (flag : Bool) → a.is_unsettable ≡ false → a.default ≡ value.Null → list_all lookups.is_object vs ≡ true → ends.is_set a (record { values = shown_values a.is_single vs; flag = flag }) ≡ not (is_nil vs)
set-by a vs flag fixed null all =
    elim a.is_single as (λ b. (if b then (if a.is_unsettable then flag else not (same_value (value_in (shown_values b vs) 0) a.default)) else not (is_nil (shown_values b vs))) ≡ not (is_nil vs)) [
      | true ↦ ap (λ (b : Bool). if b then flag else not (same_value (value_in (shown_values true vs) 0) a.default)) fixed ∙ ap (λ (v : Value). not (same_value (value_in (shown_values true vs) 0) v)) null ∙ some vs all
      | false ↦ refl
    ]
  where
    some : (ws : List Value) → list_all lookups.is_object ws ≡ true → not (same_value (value_in (shown_values true ws) 0) value.Null) ≡ not (is_nil ws)
    some [] h = refl
    some (value.Object c ∷ ws) h = refl
    some (_ ∷ ws) h = absurd (false≢true h)

---------------------------------------------------------------- values

module _ (r : Reading) (k : ResourceNo) (part : ObjectNo → Data) (f : FeatureNo) (contains : is_containment r.metamodel f ≡ true) where
  -- each object that a feature contains is written as a part
  pub values-are : (vs : List Value) → list_all lookups.is_object vs ≡ true → map (value_data r k part f) vs ≡ map part (objects_of vs)
  values-are [] all = refl
  values-are (value.Object c ∷ vs) all =
      let first : value_data r k part f (value.Object c) ≡ part c = ap (λ (b : Bool). if b then part c else string (reference_text r k c)) contains in
      let rest = values-are vs all in
      λ i. first i ∷ rest i
  values-are (_ ∷ vs) all = absurd (false≢true all)

-- a single end with a value has only its first value
pub one-value : (g : Value → Data) (vs : List Value) → vs ≡ option_to_list (slice_get vs 0) → not (is_nil vs) ≡ true → g (value_in vs 0) ∷ [] ≡ map g vs
one-value g [] one some = absurd (false≢true some)
one-value g (v ∷ vs) one some = ap (map g) (sym one)
